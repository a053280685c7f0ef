pub mod StillWorkers
