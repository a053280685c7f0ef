pub mod MessageTables
