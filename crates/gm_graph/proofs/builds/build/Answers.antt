use Rattle.std.proofs.Common.{arith, refl, sym, ◌≡◌, length}
use Rattle.gm_graph.proofs.Assembly.{numbering, numbering-as, nodes-few, extra-few, from-known, to-known, extra-known, rows-held, has-rows, ends-length, numbers-as, columns-as, spread-as}
use Rattle.gm_graph.proofs.EdgeRows.{AreEnds, AreRows, ends, grouped, lines-have-values, lines-few, from-within, to-within, out-grouped, in-grouped, rows-filled, columns-shown, within-shown, from-numbers, to-numbers}
use Rattle.gm_graph.proofs.Typing.{node-types, edge-types}
use Rattle.gm_graph.proofs.builds.build.Goals as goal

pub new-requires-clause-few : goal.new-requires-clause-few
new-requires-clause-few c = c.requires.few_nodes

pub indices-requires : goal.indices-requires
indices-requires c =
    let held = numbering c.args.raw c.in_ok-numbering.numbering _ _ _ refl refl refl c.in_ok-numbering.ensures.ascending c.in_ok-numbering.ensures.members in
    from-known c.args.raw c.in_ok-numbering.numbering _ _ held refl refl

pub indices-requires-2 : goal.indices-requires-2
indices-requires-2 c =
    let held = numbering c.args.raw c.in_ok-numbering.numbering _ _ _ refl refl refl c.in_ok-numbering.ensures.ascending c.in_ok-numbering.ensures.members in
    to-known c.args.raw c.in_ok-numbering.numbering _ _ held refl refl

pub rows_of-requires-clause-few_rows : goal.rows_of-requires-clause-few_rows
rows_of-requires-clause-few_rows c = extra-few c.args.raw c.requires

pub rows_of-requires-clause-known : goal.rows_of-requires-clause-known
rows_of-requires-clause-known c =
    let held = numbering c.args.raw c.in_ok-numbering.numbering _ _ _ refl refl refl c.in_ok-numbering.ensures.ascending c.in_ok-numbering.ensures.members in
    extra-known c.args.raw c.in_ok-numbering.numbering _ _ held refl refl

pub spread_all-requires : goal.spread_all-requires
spread_all-requires c =
    let numbers = c.into_numbers-numbers.result.items in
    let rows = rows-held c.args.raw numbers c.in_ok-node_rows.node_rows.items _ _ (sym c.into_numbers-numbers.ensures) refl (omega (arith, c.in_ok-node_rows.ensures.len)) c.in_ok-node_rows.ensures.rows in
    has-rows c.args.raw numbers c.in_ok-node_rows.node_rows.items _ _ c.requires rows c.as_slice.ensures.value c.as_slice-2.ensures

pub edge_rows-requires-clause-sources_within : goal.edge_rows-requires-clause-sources_within
edge_rows-requires-clause-sources_within c =
    let numbers = c.into_numbers-numbers.result.items in
    let ss = c.in_ok-sources.sources.items in
    let ts = c.in_ok-targets.targets.items in
    let held : AreEnds c.len.result ss ts = ends c.args.raw _ numbers ss ts c.len.result c.requires c.into_numbers-numbers.ensures c.in_ok-sources.ensures.within c.in_ok-targets.ensures.within c.in_ok-sources.ensures.numbers c.in_ok-targets.ensures.numbers (omega (arith, c.len.ensures)) in
    held.from_within

pub edge_rows-requires-clause-targets_within : goal.edge_rows-requires-clause-targets_within
edge_rows-requires-clause-targets_within c =
    let numbers = c.into_numbers-numbers.result.items in
    let ss = c.in_ok-sources.sources.items in
    let ts = c.in_ok-targets.targets.items in
    let held : AreEnds c.len.result ss ts = ends c.args.raw _ numbers ss ts c.len.result c.requires c.into_numbers-numbers.ensures c.in_ok-sources.ensures.within c.in_ok-targets.ensures.within c.in_ok-sources.ensures.numbers c.in_ok-targets.ensures.numbers (omega (arith, c.len.ensures)) in
    held.to_within

pub edge_rows-requires-clause-ends : goal.edge_rows-requires-clause-ends
edge_rows-requires-clause-ends c =
    let numbers = c.into_numbers-numbers.result.items in
    let ss = c.in_ok-sources.sources.items in
    let ts = c.in_ok-targets.targets.items in
    let held : AreEnds c.len.result ss ts = ends c.args.raw _ numbers ss ts c.len.result c.requires c.into_numbers-numbers.ensures c.in_ok-sources.ensures.within c.in_ok-targets.ensures.within c.in_ok-sources.ensures.numbers c.in_ok-targets.ensures.numbers (omega (arith, c.len.ensures)) in
    omega (arith, held.long)

pub edge_rows-requires-clause-few_edges : goal.edge_rows-requires-clause-few_edges
edge_rows-requires-clause-few_edges c =
    let numbers = c.into_numbers-numbers.result.items in
    let ss = c.in_ok-sources.sources.items in
    let ts = c.in_ok-targets.targets.items in
    let held : AreEnds c.len.result ss ts = ends c.args.raw _ numbers ss ts c.len.result c.requires c.into_numbers-numbers.ensures c.in_ok-sources.ensures.within c.in_ok-targets.ensures.within c.in_ok-sources.ensures.numbers c.in_ok-targets.ensures.numbers (omega (arith, c.len.ensures)) in
    omega (arith, held.few)

pub edge_rows-requires-clause-few_nodes : goal.edge_rows-requires-clause-few_nodes
edge_rows-requires-clause-few_nodes c =
    let held = numbering-as c.args.raw c.into_numbers-numbers.result.items _ _ _ _ c.into_numbers-numbers.ensures refl refl refl c.in_ok-numbering.ensures.ascending c.in_ok-numbering.ensures.members in
    omega (arith, nodes-few c.args.raw c.into_numbers-numbers.result.items c.requires held, c.len.ensures)

pub columns_by_row-requires : goal.columns_by_row-requires
columns_by_row-requires c =
    let numbers = c.into_numbers-numbers.result.items in
    let ss = c.in_ok-sources.sources.items in
    let ts = c.in_ok-targets.targets.items in
    let edge_ends : AreEnds c.len.result ss ts = ends c.args.raw _ numbers ss ts c.len.result c.requires c.into_numbers-numbers.ensures c.in_ok-sources.ensures.within c.in_ok-targets.ensures.within c.in_ok-sources.ensures.numbers c.in_ok-targets.ensures.numbers (omega (arith, c.len.ensures)) in
    let out = c.in_ok-rows.rows.outward in
    let inw = c.in_ok-rows.rows.inward in
    let same = c.into_numbers-numbers.ensures in
    let edges : AreRows (length numbers) ss ts out inw = grouped (length numbers) c.len.result ss ts out inw (omega (arith, c.len.ensures)) edge_ends c.in_ok-rows.ensures.outward c.in_ok-rows.ensures.inward in
    let long : length ss ≡ length c.args.raw.from = ends-length _ ss _ (numbers-as _ numbers ss _ _ (sym same) refl c.in_ok-sources.ensures.numbers) in
    lines-have-values (length numbers) ss ts _ out inw c.args.raw.edge_columns _ (length c.args.raw.from) edges c.as_slice-5.ensures.value c.as_slice-6.ensures long c.requires.edge_rows

pub invariant_of-result : goal.invariant_of-result
invariant_of-result c =
    let numbers = c.into_numbers-numbers.result.items in
    let ss = c.in_ok-sources.sources.items in
    let ts = c.in_ok-targets.targets.items in
    let edge_ends : AreEnds c.len.result ss ts = ends c.args.raw _ numbers ss ts c.len.result c.requires c.into_numbers-numbers.ensures c.in_ok-sources.ensures.within c.in_ok-targets.ensures.within c.in_ok-sources.ensures.numbers c.in_ok-targets.ensures.numbers (omega (arith, c.len.ensures)) in
    let out = c.in_ok-rows.rows.outward in
    let inw = c.in_ok-rows.rows.inward in
    let same = c.into_numbers-numbers.ensures in
    let edges : AreRows (length numbers) ss ts out inw = grouped (length numbers) c.len.result ss ts out inw (omega (arith, c.len.ensures)) edge_ends c.in_ok-rows.ensures.outward c.in_ok-rows.ensures.inward in
    let long : length ss ≡ length c.args.raw.from = ends-length _ ss _ (numbers-as _ numbers ss _ _ (sym same) refl c.in_ok-sources.ensures.numbers) in
    let held = numbering-as c.args.raw numbers _ _ _ _ same refl refl refl c.in_ok-numbering.ensures.ascending c.in_ok-numbering.ensures.members in
    let node_rows = rows-held c.args.raw numbers c.in_ok-node_rows.node_rows.items _ _ (sym same) refl (omega (arith, c.in_ok-node_rows.ensures.len)) c.in_ok-node_rows.ensures.rows in
    record {
      ascending = held.ascending;
      few_nodes = nodes-few c.args.raw numbers c.requires held;
      few_edges = lines-few (length numbers) ss ts out inw edges;
      sources_within = from-within (length numbers) ss ts out inw edges;
      targets_within = to-within (length numbers) ss ts out inw edges;
      outward = out-grouped (length numbers) ss ts out inw edges;
      inward = in-grouped (length numbers) ss ts out inw edges;
      node_rows = spread-as c.args.raw numbers c.in_ok-node_rows.node_rows.items _ _ c.in_ok-node_columns.node_columns.items (length numbers) node_rows c.as_slice.ensures.value refl c.in_ok-node_columns.ensures.values;
      edge_rows = rows-filled _ out.edges.items _ c.in_ok-edge_columns.edge_columns.items c.as_slice-5.ensures.value c.in_ok-edge_columns.ensures;
    }

pub returns-clause-made : goal.returns-clause-made
returns-clause-made c =
    let numbers = c.into_numbers-numbers.result.items in
    let ss = c.in_ok-sources.sources.items in
    let ts = c.in_ok-targets.targets.items in
    let edge_ends : AreEnds c.len.result ss ts = ends c.args.raw _ numbers ss ts c.len.result c.requires c.into_numbers-numbers.ensures c.in_ok-sources.ensures.within c.in_ok-targets.ensures.within c.in_ok-sources.ensures.numbers c.in_ok-targets.ensures.numbers (omega (arith, c.len.ensures)) in
    let out = c.in_ok-rows.rows.outward in
    let inw = c.in_ok-rows.rows.inward in
    let same = c.into_numbers-numbers.ensures in
    let edges : AreRows (length numbers) ss ts out inw = grouped (length numbers) c.len.result ss ts out inw (omega (arith, c.len.ensures)) edge_ends c.in_ok-rows.ensures.outward c.in_ok-rows.ensures.inward in
    let long : length ss ≡ length c.args.raw.from = ends-length _ ss _ (numbers-as _ numbers ss _ _ (sym same) refl c.in_ok-sources.ensures.numbers) in
    let held = numbering-as c.args.raw numbers _ _ _ _ same refl refl refl c.in_ok-numbering.ensures.ascending c.in_ok-numbering.ensures.members in
    let node_rows = rows-held c.args.raw numbers c.in_ok-node_rows.node_rows.items _ _ (sym same) refl (omega (arith, c.in_ok-node_rows.ensures.len)) c.in_ok-node_rows.ensures.rows in
    record {
      ascending = held.ascending;
      members = held.members;
      within = within-shown (length numbers) ss ts out inw edges;
      from_numbers = from-numbers (length numbers) ss ts numbers c.args.raw.from out inw edges (numbers-as _ numbers ss _ _ (sym same) refl c.in_ok-sources.ensures.numbers);
      to_numbers = to-numbers (length numbers) ss ts numbers c.args.raw.to out inw edges (numbers-as _ numbers ts _ _ (sym same) refl c.in_ok-targets.ensures.numbers);
      node_columns = columns-as c.args.raw numbers c.in_ok-node_rows.node_rows.items _ _ _ c.requires node_rows c.as_slice.ensures.value c.as_slice-2.ensures c.in_ok-node_columns.ensures.values;
      edge_columns = columns-shown (length numbers) ss ts _ out inw c.args.raw.edge_columns _ c.in_ok-edge_columns.edge_columns.items (length c.args.raw.from) edges c.as_slice-5.ensures.value c.as_slice-6.ensures long c.requires.edge_rows c.in_ok-edge_columns.ensures;
    }

pub returns-clause-shape : goal.returns-clause-shape
returns-clause-shape c =
    let numbers = c.into_numbers-numbers.result.items in
    let ss = c.in_ok-sources.sources.items in
    let ts = c.in_ok-targets.targets.items in
    let edge_ends : AreEnds c.len.result ss ts = ends c.args.raw _ numbers ss ts c.len.result c.requires c.into_numbers-numbers.ensures c.in_ok-sources.ensures.within c.in_ok-targets.ensures.within c.in_ok-sources.ensures.numbers c.in_ok-targets.ensures.numbers (omega (arith, c.len.ensures)) in
    let out = c.in_ok-rows.rows.outward in
    let inw = c.in_ok-rows.rows.inward in
    let same = c.into_numbers-numbers.ensures in
    let edges : AreRows (length numbers) ss ts out inw = grouped (length numbers) c.len.result ss ts out inw (omega (arith, c.len.ensures)) edge_ends c.in_ok-rows.ensures.outward c.in_ok-rows.ensures.inward in
    let long : length ss ≡ length c.args.raw.from = ends-length _ ss _ (numbers-as _ numbers ss _ _ (sym same) refl c.in_ok-sources.ensures.numbers) in
    let held = numbering-as c.args.raw numbers _ _ _ _ same refl refl refl c.in_ok-numbering.ensures.ascending c.in_ok-numbering.ensures.members in
    let node_rows = rows-held c.args.raw numbers c.in_ok-node_rows.node_rows.items _ _ (sym same) refl (omega (arith, c.in_ok-node_rows.ensures.len)) c.in_ok-node_rows.ensures.rows in
    let spread = columns-as c.args.raw numbers c.in_ok-node_rows.node_rows.items _ _ _ c.requires node_rows c.as_slice.ensures.value c.as_slice-2.ensures c.in_ok-node_columns.ensures.values in
    let placed = columns-shown (length numbers) ss ts _ out inw c.args.raw.edge_columns _ c.in_ok-edge_columns.edge_columns.items (length c.args.raw.from) edges c.as_slice-5.ensures.value c.as_slice-6.ensures long c.requires.edge_rows c.in_ok-edge_columns.ensures in
    record {
      node_types = node-types c.args.raw numbers _ _ c.requires spread c.as_slice-4.ensures c.know_types-2.ensures;
      edge_types = edge-types c.args.raw _ _ c.requires placed c.as_slice-3.ensures c.know_types.ensures;
    }
