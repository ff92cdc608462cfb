-- A route by the count of its hex digits, with the hyphens and the zero byte in place.
use Rattle.std.proofs.Common.{ℕ, ◌≡◌, arith, sym, ap, eqb, length, get_or, ◌∙◌}
use Rattle.std.proofs.Math.Dec.{lit<}
use borrow.Author.Tests.{ne_eqb}
use Rattle.frame_forms.proofs.Routes.{route_length_lem, route_missed, route_counted}
use Rattle.frame_forms.proofs.Stretches.{in_stretches}
use Rattle.frame_forms.proofs.is_route.Goals.{then-s-ne45-via-then-s-ne45, then-s-ne45-via-else-s-ne45+then-s-ne45-2, then-s-ne45-via-else-s-ne45+else-s-ne45-2+then-s-ne45-3, then-s-ne45-via-else-s-ne45+else-s-ne45-2+else-s-ne45-3+then-s-ne45-4, then-s-ne45-via-else-s-ne45+else-s-ne45-2+else-s-ne45-3+else-s-ne45-4+then-s-ne0}
use Rattle.frame_forms.proofs.is_route.Goals as goal

pub returns-then-s-ne-ROUTE : goal.returns-then-s-ne-ROUTE
returns-then-s-ne-ROUTE c = sym (route_length_lem c.args.s.now (λ e. omega arith))

pub returns-then-s-ne45 : goal.returns-then-s-ne45
returns-then-s-ne45 c =
    let s = c.args.s.now in
    elim c.then-s-ne45.branch [
      | then-s-ne45-via-then-s-ne45 w ↦ sym (route_missed s 8 (lit< tt) (ne_eqb (get_or s 8 0) 45 (λ e. omega (arith, w.if-s-ne45.true))))
      | then-s-ne45-via-else-s-ne45+then-s-ne45-2 w ↦ sym (route_missed s 13 (lit< tt) (ne_eqb (get_or s 13 0) 45 (λ e. omega (arith, w.if-s-ne45-2.true))))
      | then-s-ne45-via-else-s-ne45+else-s-ne45-2+then-s-ne45-3 w ↦ sym (route_missed s 18 (lit< tt) (ne_eqb (get_or s 18 0) 45 (λ e. omega (arith, w.if-s-ne45-3.true))))
      | then-s-ne45-via-else-s-ne45+else-s-ne45-2+else-s-ne45-3+then-s-ne45-4 w ↦ sym (route_missed s 23 (lit< tt) (ne_eqb (get_or s 23 0) 45 (λ e. omega (arith, w.if-s-ne45-4.true))))
      | then-s-ne45-via-else-s-ne45+else-s-ne45-2+else-s-ne45-3+else-s-ne45-4+then-s-ne0 w ↦ sym (route_missed s 36 (lit< tt) (ne_eqb (get_or s 36 0) 0 (λ e. omega (arith, w.if-s-ne0.true))))
    ]

pub returns : goal.returns
returns c =
    let s = c.args.s.now in
    let h : length s ≡ 37 = omega (arith, c.if-s-ne-ROUTE.false) in
    let e₈ : get_or s 8 0 ≡ 45 = omega (arith, c.if-s-ne45.false) in
    let e₁₃ : get_or s 13 0 ≡ 45 = omega (arith, c.if-s-ne45-2.false) in
    let e₁₈ : get_or s 18 0 ≡ 45 = omega (arith, c.if-s-ne45-3.false) in
    let e₂₃ : get_or s 23 0 ≡ 45 = omega (arith, c.if-s-ne45-4.false) in
    let e₃₆ : get_or s 36 0 ≡ 0 = omega (arith, c.if-s-ne0.false) in
    ap (λ (n : ℕ). eqb n 43) c.hex_digits.ensures ∙ in_stretches s h e₈ e₁₃ e₁₈ e₂₃ e₃₆ ∙ sym (route_counted s h e₈ e₁₃ e₁₈ e₂₃ e₃₆)
