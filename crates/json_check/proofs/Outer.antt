-- In front of the outer object and behind it.
use Rattle.std.specs.Prelude.{Ok, Err}
use mathlib.Core.Path.{◌≡◌, refl, sym, ap, ◌∙◌}
use mathlib.Core.Bool.{false}
use mathlib.Core.List.{List, []}
use Prim.Native.Nat.{ℕ, ◌+◌, ◌<◌, ◌≤◌}
use native.Mathlib.Omega.{arith}
use borrow.Author.Tests.{ne_eqb}
use lib.ListN.{length, drop, get_or}
use Rattle.json_scan.specs.declared.Fault.TheVariants.{NotJson}
use Rattle.json_scan.specs.Scan.{is_white, outer, value, behind, between, ended, nowhere, to, value_step, behind_step, token_move, between_move, move_of, go_on, scan, depth_limit, verdict_of}
use Rattle.json_scan.specs.WorkingEnds.{end_of}
use Rattle.json_scan.specs.WorkingReads.{Came, resumed, ReadsOn}
use Rattle.json_scan.proofs.Scanning.{scan_at, scan_over}
use Rattle.json_scan.proofs.Reading.{scan_alike}
use Rattle.json_scan.proofs.White.{token_begins, dark_at, scan_white}
use Rattle.json_check.proofs.Nesting.{leads}

-- ---- behind it

ends_step : (c : ℕ) → c ≡ 0 → move_of (between behind) [] c ≡ to ended []
unfolding move_of between_move token_move behind_step is_white
ends_step c e = ap (move_of (between behind) []) e

no_end : (c : ℕ) → is_white c ≡ false → (c ≡ 0 → ⊥) → move_of (between behind) [] c ≡ nowhere
unfolding token_move behind_step
no_end c d f = token_begins behind [] c d ∙ rw (ne_eqb c 0 f) refl

over_step : (c : ℕ) → move_of ended [] c ≡ nowhere
unfolding move_of
over_step c = refl

module _ (most : ℕ) (bytes : List ℕ) (at i : ℕ) (end : i ≡ end_of is_white bytes at) where
  pub ends_over : length bytes ≤ i → scan most (between behind) [] at (drop at bytes) ≡ Err (NotJson i)
  ends_over l = scan_white bytes at i end most behind [] (omega arith) ∙ scan_over most (between behind) [] bytes i l

  pub ends_wrong : i < length bytes → (get_or bytes i 0 ≡ 0 → ⊥) → scan most (between behind) [] at (drop at bytes) ≡ Err (NotJson i)
  ends_wrong l f =
      scan_white bytes at i end most behind [] (omega arith)
      ∙ scan_at most (between behind) [] bytes i l
      ∙ ap (go_on most i (λ state₁ around₁. scan most state₁ around₁ (i + 1) (drop (i + 1) bytes))) (no_end (get_or bytes i 0) (dark_at bytes at i end l) f)

  -- behind the zero byte
  zero_read : i < length bytes → get_or bytes i 0 ≡ 0 → scan most (between behind) [] at (drop at bytes) ≡ scan most ended [] (i + 1) (drop (i + 1) bytes)
  zero_read l e = scan_white bytes at i end most behind [] (omega arith) ∙ leads most (between behind) [] bytes i l ended [] (ends_step (get_or bytes i 0) e) (omega arith)

  pub ends_more : i + 1 < length bytes → get_or bytes i 0 ≡ 0 → scan most (between behind) [] at (drop at bytes) ≡ Err (NotJson (i + 1))
  ends_more l e =
      zero_read (omega (arith, l)) e
      ∙ scan_at most ended [] bytes (i + 1) l
      ∙ ap (go_on most (i + 1) (λ state₁ around₁. scan most state₁ around₁ (i + 1 + 1) (drop (i + 1 + 1) bytes))) (over_step (get_or bytes (i + 1) 0))

  pub ends_here : i < length bytes → length bytes ≤ i + 1 → get_or bytes i 0 ≡ 0 → scan most (between behind) [] at (drop at bytes) ≡ Ok tt
  ends_here l m e = zero_read l e ∙ scan_over most ended [] bytes (i + 1) m

-- ---- in front of it

-- it opens as an object does that is a value
opens_outer : (c : ℕ) → c ≡ 123 → move_of (between outer) [] c ≡ move_of (between value) [] c
unfolding move_of between_move token_move value_step is_white
opens_outer c e = ap (move_of (between outer) []) e ∙ sym (ap (move_of (between value) []) e)

no_outer : (c : ℕ) → is_white c ≡ false → (c ≡ 123 → ⊥) → move_of (between outer) [] c ≡ nowhere
unfolding token_move
no_outer c d f = token_begins outer [] c d ∙ rw (ne_eqb c 123 f) refl

module _ (bytes : List ℕ) (i : ℕ) (end : i ≡ end_of is_white bytes 0) where
  pub judged_over : length bytes ≤ i → Err (NotJson i) ≡ verdict_of bytes
  unfolding verdict_of
  judged_over l = sym (scan_white bytes 0 i end depth_limit outer [] (omega arith) ∙ scan_over depth_limit (between outer) [] bytes i l)

  pub judged_wrong : i < length bytes → (get_or bytes i 0 ≡ 123 → ⊥) → Err (NotJson i) ≡ verdict_of bytes
  unfolding verdict_of
  judged_wrong l f =
      sym
      (scan_white bytes 0 i end depth_limit outer [] (omega arith)
      ∙ scan_at depth_limit (between outer) [] bytes i l
      ∙ ap (go_on depth_limit i (λ state₁ around₁. scan depth_limit state₁ around₁ (i + 1) (drop (i + 1) bytes))) (no_outer (get_or bytes i 0) (dark_at bytes 0 i end l) f))

  -- it is what its object comes to
  pub judged-object : get_or bytes i 0 ≡ 123 → (r : Came) → ReadsOn bytes 32 i (between value) (between behind) r → resumed bytes (scan depth_limit (between behind) []) r ≡ verdict_of bytes
  unfolding verdict_of
  judged-object e r reads =
      sym
      (scan_white bytes 0 i end depth_limit outer [] (omega arith)
      ∙ scan_alike bytes i depth_limit (between outer) (between value) [] refl (λ l. opens_outer (get_or bytes i 0) e)
      ∙ reads.same [])
