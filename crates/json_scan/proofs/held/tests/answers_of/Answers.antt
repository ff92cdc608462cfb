-- What was given now stands at its number, and what was given before stays where it was.
use Rattle.std.proofs.Common.{◌≡◌, ℕ, Bool, length, false, arith}
use mathlib.Core.Path.{refl, subst⁻¹}
use mathlib.Core.Logic.{⊎_elim}
use lib.Dec.{eqb}
use borrow.Author.Tests.{eqb-true, eqb-false}
use Rattle.bytes_number.proofs.Truth.{outcome}
use Rattle.std.proofs.lemmas.List.{get_or-set_other}
use Rattle.std.proofs.lemmas.Grind.{get_or-set_at}
use lib.ListN.{length-set}
use Rattle.json_scan.proofs.held.tests.answers_of.Goals as goal

pub loop-i-preserved : goal.loop-i-preserved
loop-i-preserved g c =
    let size : length c.loop-i.answers ≡ 256 = c.loop-i.invariant.2 in
    let old = c.loop-i.invariant.4 in
    let post = λ (n : ℕ) (b : Bool). goal.F-post g c.args.passes n b in (
      c.requires,
      omega arith,
      rw (length-set c.loop-i.answers c.loop-i.i c.passes.result) size,
      refl,
      (λ j l.
          ⊎_elim
          (λ t. let e : j ≡ c.loop-i.i = eqb-true j c.loop-i.i t in rw (get_or-set_at c.loop-i.answers c.loop-i.i j c.passes.result false e (omega (arith, size))) (subst⁻¹ (λ (n : ℕ). post n c.passes.result) e c.passes.ensures))
          (λ t. rw (get_or-set_other c.loop-i.answers c.loop-i.i j c.passes.result false (eqb-false j c.loop-i.i t)) (old j (omega (arith, eqb-false j c.loop-i.i t))))
          (outcome (eqb j c.loop-i.i))),
    )
