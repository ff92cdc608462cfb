-- The passes from here on are those from the first link on.
use Rattle.std.proofs.Common.{◌≡◌, ◌-◌, ◌≤◌}
use Rattle.step_routing.specs.Routed.{tables_in}
use Rattle.walk.specs.WorkingPasses.{passes_from}
use Rattle.walk.proofs.passes.go_on.Given as goal

abbrev pub invariant-loop-links : goal.invariant-loop-links
invariant-loop-links l = passes_from (65 - l.links) (tables_in l.t) l.b l.links l.buffer ≡ passes_from 64 (tables_in l.t) l.fn.first 1 l.initial.buffer
