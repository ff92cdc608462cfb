-- The tests of a byte, joined another way.
use Rattle.std.proofs.Common.{Bool, not, ◌&&◌, eqb, ltb, leb, ap, ◌∙◌}
use Rattle.json_scan.specs.Scan.{is_within}
use Rattle.json_plain.specs.WorkingPlain.{is_plain}
use Rattle.json_plain.proofs.Tests.{tests_joined, below_128}
use Rattle.json_plain.proofs.is_plain.Goals as goal

pub returns : goal.returns
unfolding is_plain is_within
returns c = let x = c.args.c in
    tests_joined (not (eqb x 34)) (not (eqb x 92)) (leb 32 x) (ltb x 128) ∙ ap (λ (t : Bool). not (eqb x 34) && (not (eqb x 92) && (leb 32 x && t))) (below_128 x)
