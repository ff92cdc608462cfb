-- Laws on a copy that goes block by block, and on one that goes over some bytes twice.
use mathlib.Core.Path.{◌≡◌, sym, ap, ◌∙◌, subst}
use Prim.Native.Nat.{ℕ, ◌+◌, ◌-◌, ◌≤◌}
use mathlib.Core.List.{List, ◌++◌}
use native.Mathlib.Omega.{arith}
use lib.ListN.{length, take, drop, length-drop, take-append-drop}
use lib.Seq.{take-add, take-length, take-take, take-append-le, drop_at, drop-drop, length-take-le}
use borrow.Rule.Slice.PartMut.{mid_of, put_mid}
use Rattle.bytes_number.specs.Laid.{laid}
use Rattle.bytes_number.specs.WorkingLays.{Lays}
use Rattle.bytes_number.proofs.Laying.{lays_none, lays_more, lays_length, lays_rest}

-- the bytes of src in front of a place are copied
pub record Copied (src lent dst : List ℕ) (at : ℕ) : Type 0 where
  pub most : at ≤ length src
  pub lays : Lays (take at src) lent dst at

pub copied_none : (src lent : List ℕ) → Copied src lent lent 0
copied_none src lent = record { most = omega arith; lays = lays_none lent }

-- a block from the front on is copied
pub copied_front : {src lent dst : List ℕ} (k : ℕ) → k ≤ length src → dst ≡ laid (take (k - 0) src) lent → Copied src lent dst k
copied_front {src} {lent} k h e =
    let all : k - 0 ≡ k = omega arith in
    record { most = h; lays = record { told = sym (length-take-le k src h); bytes = e ∙ ap (λ (n : ℕ). laid (take n src) lent) all } }

module _ {src lent dst : List ℕ} {at : ℕ} (c : Copied src lent dst at) (room : length src ≤ length lent) where
  pub copied_length : length dst ≡ length lent
  copied_length = lays_length c.lays (omega (arith, length-take-le at src c.most))

  module _ (end : ℕ) (here : at ≤ end) (there : end ≤ length src) where
    next : take at src ++ take (end - at) (drop at src) ≡ take end src
    next =
        let whole : at + (end - at) ≡ end = omega arith in
        sym (take-add at (end - at) src) ∙ ap (λ (n : ℕ). take n src) whole

    pub block_long : length (take (end - at) (drop at src)) ≡ end - at
    block_long = length-take-le (end - at) (drop at src) (omega (arith, length-drop at src))

    -- the rest has room for the next block
    pub block_fits : length (take (end - at) (drop at src)) ≤ length (mid_of at (length dst - at) dst)
    block_fits = lays_rest c.lays (take (end - at) (drop at src)) (omega (arith, ap length next, length-take-le end src there))

    pub copied_more : {last : List ℕ} → last ≡ laid (take (end - at) (drop at src)) (mid_of at (length dst - at) dst) → Copied src lent (put_mid at (length dst - at) dst last) end
    copied_more {last} e =
        let told : at + (end - at) ≡ end = omega arith in
        let more = lays_more c.lays {x = take (end - at) (drop at src)} {n = end - at} (record { told = sym block_long; bytes = e }) in
        record {
          most = there;
          lays = subst (λ (n : ℕ). Lays (take end src) lent (put_mid at (length dst - at) dst last) n) told (subst (λ (w : List ℕ). Lays w lent (put_mid at (length dst - at) dst last) (at + (end - at))) next more);
        }

-- all is copied
pub copied_all : {src lent dst : List ℕ} → Copied src lent dst (length src) → dst ≡ laid src lent
copied_all {src} {lent} c = c.lays.bytes ∙ ap (λ (xs : List ℕ). laid xs lent) (take-length src)

module _ {src lent dst : List ℕ} {k : ℕ} (c : Copied src lent dst k) where
  -- the copy goes back: what stands in front of an earlier place is copied too
  pub copied_back : (at : ℕ) → at ≤ k → Copied src dst dst at
  copied_back at h =
      let long : length (take at src) ≡ at = length-take-le at src (omega (arith, c.most)) in
      let front : take at dst ≡ take at src = ap (take at) c.lays.bytes ∙ take-append-le at (take k src) (drop (length (take k src)) lent) (omega (arith, length-take-le k src c.most)) ∙ take-take at k src h in
      record {
        most = omega (arith, c.most);
        lays = record {
          told = sym long;
          bytes = sym (take-append-drop at dst) ∙ ap (λ (xs : List ℕ). xs ++ drop at dst) front ∙ ap (λ (n : ℕ). take at src ++ drop n dst) (sym long);
        };
      }

  -- and what lies behind the source is as it was lent
  pub copied_behind : laid src dst ≡ laid src lent
  copied_behind =
      let long : length (take k src) ≡ k = length-take-le k src c.most in
      let rest : drop k dst ≡ drop k lent = ap (drop k) c.lays.bytes ∙ drop_at (take k src) (drop (length (take k src)) lent) k long ∙ ap (λ (n : ℕ). drop n lent) long in
      let far : k + (length src - k) ≡ length src = omega (arith, c.most) in
      let at_end_lem : (xs : List ℕ) → drop (length src) xs ≡ drop (length src - k) (drop k xs) = λ xs. sym (drop-drop (length src - k) k xs ∙ ap (λ (n : ℕ). drop n xs) far) in
      ap (λ (xs : List ℕ). src ++ xs) (at_end_lem dst ∙ ap (drop (length src - k)) rest ∙ sym (at_end_lem lent))
