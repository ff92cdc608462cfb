-- Whom upstream skips, by the path (`upstream-skips`).
use Rattle.std.specs.Prelude.{Option, None, Some}
use mathlib.Core.Path.{◌≡◌, refl, sym, ap, ◌∙◌, subst}
use mathlib.Core.Bool.{true}
use mathlib.Core.List.{List, [], ◌∷◌}
use Prim.Native.Nat.{ℕ, ◌-◌, ◌<◌, ◌≤◌}
use native.Mathlib.Omega.{arith}
use borrow.Author.Tests.{eq-eqb, ne_eqb}
use lib.ListN.{length}
use Rattle.frame_message.specs.declared.Header.{Header}
use Rattle.frame_message.specs.Header.{is_upstream}
use Rattle.frame_message.specs.Reading.{final}
use Rattle.frame_message.proofs.Lists.{Each, each_at}
use Rattle.table_tree.specs.Tree.{ranks_in}
use Rattle.table_tree.specs.Depths.{depth_of, tree_good}
use Rattle.walk_path.specs.Path.{chain, is_in, delivers, Path, record_of, served_at, is_found, up_path, end_at, ending, any_path, path_of}
use Rattle.walk_path.specs.WorkingLeading.{Linked}
use Rattle.claim_walks.specs.Upstream.{UpstreamSkips}
use Rattle.walk_path.proofs.Chains.{same_search, search_ends}
use Rattle.walk_path.proofs.Leading.{path_upstream, up_here, followed, linked_ranks, end_found}

module _ (tree services : List ℕ) (entry : ℕ) (h : Header) (topic : List ℕ) (g : tree_good tree ≡ true) (inside : entry < ranks_in tree)
    (u : is_upstream h.flags ≡ true) (n : h.first ≡ 4294967295 → ⊥) where
  abbrev serves : ℕ → Option ℕ
  serves = served_at services topic h.first

  abbrev path : Path
  path = path_of tree services entry h topic

  is : path ≡ ending serves (up_path tree serves entry)
  is = path_upstream tree services entry h topic n u

  -- who is not named serves what it registers
  unnamed : (r : ℕ) → (r ≡ h.first → ⊥) → serves r ≡ record_of services topic r
  unnamed r apart = rw (ne_eqb r h.first apart) refl

  skipped : (number : ℕ) → path.end ≡ delivers number → final 0 path.brokers ≡ h.first → ⊥
  skipped number ends last =
      let at_last = end_found (serves (final 0 (up_path tree serves entry))) number (sym (ap (λ (p : Path). p.end) is) ∙ ends) in
      let there : final 0 (up_path tree serves entry) ≡ h.first = sym (ap (λ (p : Path). final 0 p.brokers) is) ∙ last in
      let named : serves h.first ≡ Some number = rw there at at_last in
      let nothing : None ≡ Some number = rw (eq-eqb h.first h.first refl) at named in
      absurd (let no : ◌≡◌ {A = ℕ} 0 1 = cc in omega arith)

  other :
      (r : ℕ) → is_in r path.brokers ≡ true → (r ≡ h.first → ⊥) → (number : ℕ) → record_of services topic r ≡ Some number →
      (path.end ≡ delivers number) × (final 0 path.brokers ≡ r)
  unfolding up_path
  other r within apart number registers =
      let here = unnamed r apart ∙ registers in
      let last = search_ends (λ s. is_found (serves s)) (chain tree entry) r (sym (ap (λ (p : Path). is_in r p.brokers) is) ∙ within) (ap is_found here) in
      (ap (λ (p : Path). p.end) is ∙ ap (λ (s : ℕ). end_at (serves s)) last ∙ ap end_at here, ap (λ (p : Path). final 0 p.brokers) is ∙ last)

  own : (entry ≡ h.first → ⊥) → (number : ℕ) → record_of services topic entry ≡ Some number → path ≡ record { brokers = entry ∷ []; end = delivers number }
  unfolding up_path chain
  own apart number registers =
      let here = unnamed entry apart ∙ registers in
      is ∙ ap (ending serves) (up_here tree serves (depth_of tree entry) entry number here) ∙ rw here refl

  module _ (outside : ranks_in tree ≤ h.first) where
    inner : (r : ℕ) → r < ranks_in tree → serves r ≡ record_of services topic r
    inner r within = unnamed r (λ e. absurd (omega (arith, within)))

    agree : (rs : List ℕ) → Each (λ r. r < ranks_in tree) rs → Each (λ r. is_found (serves r) ≡ is_found (record_of services topic r)) rs
    agree [] within = tt
    agree (r ∷ rs) within = (ap is_found (inner r within.0), agree rs within.1)

    ranks : Each (λ r. r < ranks_in tree) (up_path tree serves entry)
    ranks = linked_ranks tree (up_path tree serves entry) (subst (λ (p : Path). Linked tree p.brokers) is (followed tree services entry h topic g inside).linked)

    some : 0 < length (up_path tree serves entry)
    some = let f = followed tree services entry h topic g inside in
        let starts : up_path tree serves entry ≡ entry ∷ f.rest = sym (ap (λ (p : Path). p.brokers) is) ∙ f.starts in
        rw starts (omega arith)

    nobody : path ≡ any_path tree services topic entry
    unfolding up_path
    nobody =
        let brokers = up_path tree serves entry in
        let last = each_at (λ r. r < ranks_in tree) brokers (length brokers - 1) 0 ranks (omega (arith, some)) in
        let same = same_search (λ r. is_found (serves r)) (λ r. is_found (record_of services topic r)) (chain tree entry) (agree brokers ranks) in
        is
        ∙ (λ i. record { brokers = brokers; end = end_at (inner (final 0 brokers) last i) })
        ∙ ap (ending (record_of services topic)) (sym same)

pub upstream-skips : (tree services : List ℕ) (entry : ℕ) (h : Header) (topic : List ℕ) → UpstreamSkips tree services entry h topic
upstream-skips tree services entry h topic g inside u n =
    record {
      skipped = skipped tree services entry h topic g inside u n;
      other = other tree services entry h topic g inside u n;
      own = own tree services entry h topic g inside u n;
      nobody = nobody tree services entry h topic g inside u n;
    }
