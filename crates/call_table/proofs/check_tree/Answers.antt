-- `call_table::check_tree` meets its contract: by the law of each way that it ends.
use Rattle.std.proofs.Common.{length}
use Rattle.table_tree_check.specs.Checking.{depths_into}
use Rattle.call_specs.proofs.Telling.{fills_none, fills_refused, fills_counted, fills_on}
use Rattle.call_specs.proofs.TreeCalls.{tree_short, tree_on, tree_refused, tree_counted}
use Rattle.call_table.proofs.check_tree.Goals as goal

pub returns-then-row-lt-COUNT_RECORD : goal.returns-then-row-lt-COUNT_RECORD
returns-then-row-lt-COUNT_RECORD c = let s = c.args in
    fills_none (tree_short s.tree.now (length s.depths.now) (length s.row.now) c.if-row-lt-COUNT_RECORD.true) c.from.ensures

pub returns-in-Err : goal.returns-in-Err
returns-in-Err c = let s = c.args in
    let r = c.in-Err in
    fills_on (tree_on s.tree.now (length s.depths.now) (length s.row.now) c.if-row-lt-COUNT_RECORD.false)
    (fills_refused (tree_refused (depths_into (length s.depths.now) s.tree.now) r.r r.ensures.0) c.from-in-Err.ensures r.ensures.1)

pub returns-in-Ok : goal.returns-in-Ok
returns-in-Ok c = let s = c.args in
    let n = c.in-Ok in
    let room = c.if-row-lt-COUNT_RECORD.false in
    fills_on (tree_on s.tree.now (length s.depths.now) (length s.row.now) room)
    (fills_counted (tree_counted (depths_into (length s.depths.now) s.tree.now) n.n n.ensures.0) n.ensures.1 room c.put_row.ensures)
