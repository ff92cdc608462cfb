-- The header: a law for each case of its tests.
use mathlib.Core.Path.{◌≡◌, refl, ap, ◌∙◌}
use native.Mathlib.Omega.{arith}
use mathlib.Core.Bool.{true, false}
use Prim.Native.Nat.{ℕ}
use mathlib.Core.List.{List, [], ◌∷◌, ◌++◌, append-nil}
use borrow.Author.Tests.{eq-eqb, ne_eqb}
use lib.ListN.{length, get_or, drop, replicate}
use Rattle.bytes_number.specs.Number.{number, row_bytes}
use Rattle.bytes_number.specs.WorkingLays.{laid_if_room}
use Rattle.frame_message.specs.declared.Header.{Header}
use Rattle.frame_message.specs.Header.{is_type, are_flags, header_bytes, header_in}
use Rattle.frame_message.specs.Reading.{header_or_why}
use Rattle.refusal.specs.declared.Refusal.TheVariants.{HeaderWrong, MagicWrong, VersionWrong, TypeWrong, FlagWrong}
use Rattle.refusal.specs.declared.Refusal.{Refusal}
use Rattle.refusal.specs.Answer.{Answer, refused, answered}
use Rattle.frame_message.proofs.Headers.{header_answered, header_tested}
use Rattle.std.specs.Prelude.{Ok, Err}
use Rattle.frame_header.specs.WorkingHead.{test_as, head_as}

-- ---- the fields

pub fields_in_lem : (p : List ℕ) {u r f s : ℕ} → u ≡ number (drop 4 p) → r ≡ number (drop 8 p) → f ≡ number (drop 12 p) → s ≡ number (drop 16 p) → ◌≡◌ {A = Header} (record { kind = get_or p 2 0; flags = get_or p 3 0; userid = u; rolemask = r; first = f; second = s }) (header_in p)
unfolding header_in
fields_in_lem p eu er ef es = rw (eu, er, ef, es)

-- ---- a header that is right: 6, 20, 21, 22, then 23

module _ (p : List ℕ) where
  pub head_length : (length p ≡ 20 → ⊥) → Err HeaderWrong ≡ test_as (header_or_why p)
  unfolding header_or_why
  head_length n = rw (ne_eqb (length p) 20 n)

  module _ (long : length p ≡ 20) where
    pub head_magic : (get_or p 0 0 ≡ 142 → ⊥) → Err MagicWrong ≡ test_as (header_or_why p)
    unfolding header_or_why
    head_magic n = rw (eq-eqb (length p) 20 long, ne_eqb (get_or p 0 0) 142 n)

    module _ (magic : get_or p 0 0 ≡ 142) where
      pub head_version : (get_or p 1 0 ≡ 1 → ⊥) → Err VersionWrong ≡ test_as (header_or_why p)
      unfolding header_or_why
      head_version n = rw (eq-eqb (length p) 20 long, eq-eqb (get_or p 0 0) 142 magic, ne_eqb (get_or p 1 0) 1 n)

      module _ (version : get_or p 1 0 ≡ 1) where
        pub head_type : is_type (get_or p 2 0) ≡ false → Err TypeWrong ≡ test_as (header_or_why p)
        unfolding header_or_why
        head_type e = rw (eq-eqb (length p) 20 long, eq-eqb (get_or p 0 0) 142 magic, eq-eqb (get_or p 1 0) 1 version, e)

        module _ (type-known : is_type (get_or p 2 0) ≡ true) where
          pub head_flag : are_flags (get_or p 3 0) ≡ false → Err FlagWrong ≡ test_as (header_or_why p)
          unfolding header_or_why
          head_flag e = rw (eq-eqb (length p) 20 long, eq-eqb (get_or p 0 0) 142 magic, eq-eqb (get_or p 1 0) 1 version, type-known, e)

          pub head_right : are_flags (get_or p 3 0) ≡ true → Ok tt ≡ test_as (header_or_why p)
          unfolding header_or_why
          head_right e = rw (eq-eqb (length p) 20 long, eq-eqb (get_or p 0 0) 142 magic, eq-eqb (get_or p 1 0) 1 version, type-known, e)

-- ---- what the test told

pub told_wrong : (a : Answer Header) {r : Refusal} → Err r ≡ test_as a → Err r ≡ head_as a
told_wrong (refused q) {r} e = let same : r ≡ q = cc in ap Err same
told_wrong (answered h) e = let z : ◌≡◌ {A = ℕ} 0 1 = cc in absurd (omega arith)

pub told_right : (p : List ℕ) → Ok tt ≡ test_as (header_or_why p) → header_or_why p ≡ answered (header_in p)
told_right p e = go (header_or_why p) refl e
  where
    go : (a : Answer Header) → header_or_why p ≡ a → Ok tt ≡ test_as a → header_or_why p ≡ answered (header_in p)
    go (refused q) k e = let z : ◌≡◌ {A = ℕ} 0 1 = cc in absurd (omega arith)
    go (answered h) k e = k ∙ ap answered (header_answered p h k).same

pub right_long : (p : List ℕ) → Ok tt ≡ test_as (header_or_why p) → length p ≡ 20
right_long p e = (header_tested p (header_answered p (header_in p) (told_right p e)).passes).long

-- ---- a header written

-- four bytes, and four numbers laid behind them
pub header_held : (h : Header) {last : List ℕ} → last ≡ laid_if_room (row_bytes (h.userid ∷ h.rolemask ∷ h.first ∷ h.second ∷ [])) (replicate 16 0) → 142 ∷ 1 ∷ h.kind ∷ h.flags ∷ (last ++ []) ≡ header_bytes h
unfolding header_bytes
header_held h e = rw (e, append-nil)
