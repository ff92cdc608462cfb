-- The byte of each refusal, by what the code computes: one law for each.
use mathlib.Core.Path.{◌≡◌, refl, sym, ap, ◌∙◌}
use Prim.Native.Nat.{ℕ, ◌+◌, ◌≤◌}
use mathlib.Core.Bool.{Bool, true, false, cond}
use mathlib.Core.List.{List, []}
use native.Mathlib.Omega.{arith}
use lib.Dec.{eqb}
use lib.ListN.{length, get_or, take}
use Rattle.bytes_number.specs.Number.{Bytes}
use Rattle.frame_message.specs.declared.Header.{Header}
use Rattle.frame_message.specs.Header.{has_route, header_in}
use Rattle.frame_message.specs.Working.{is_header}
use Rattle.frame_message.specs.Frame.{joined}
use Rattle.frame_message.specs.Reading.{front, final, parts_agree}
use Rattle.frame_message.proofs.Headers.{header_tested}
use Rattle.frame_message.proofs.Parts.{split}
use Rattle.frame_forms.specs.Forms.{is_route}
use Rattle.frame_forms.proofs.Routes as forms
use Rattle.frame_parts.specs.declared.PartCounts.{PartCounts}
use Rattle.frame_body.specs.WorkingJudging.{parts_found, CountsOf, Headed}
use Rattle.frame_body.proofs.Agreeing.{group_long}
use Rattle.frame_body.proofs.Heading.{last_within, group_within}
use Rattle.refusal.specs.declared.Refusal.{Refusal}
use Rattle.refusal.specs.declared.Refusal.TheVariants.{HeaderWrong, MagicWrong, VersionWrong, TypeWrong, FlagWrong, PartsDisagree, RouteWrong, TopicWrong, FieldWrong}
use Rattle.refusal.specs.Refusals.{number_of}
use Rattle.frame_fault.specs.Fault.{data_start, header_data, header_of_parts, first_malformed, topic_index, field_byte, fault_bytes, byte_for}
use Rattle.frame_fault.specs.WorkingFaults.{size_length, Long, Why, length_wrong, magic_wrong, version_wrong, type_wrong, flag_wrong, parts_disagree, route_wrong, topic_wrong_lem, field_wrong}
use Rattle.frame_fault.proofs.Parts.{taken_within, data_start_lem, header_start, header-byte, some_routes, offending, group_taken}

-- ---- what a refusal tells

module _ {ps : List (List ℕ)} where
  -- every refusal but 6 is told of a header of 20 bytes
  pub why_long : {s : Refusal} → Why ps s → (s ≡ HeaderWrong → ⊥) → Long ps
  why_long (length_wrong l) n = absurd (n refl)
  why_long (magic_wrong l m) n = l
  why_long (version_wrong l m v) n = l
  why_long (type_wrong l m v k) n = l
  why_long (flag_wrong l m v k f) n = l
  why_long (parts_disagree is a) n = (header_tested _ is).long
  why_long (route_wrong is a r) n = (header_tested _ is).long
  why_long (topic_wrong_lem is a t f) n = (header_tested _ is).long
  why_long (field_wrong is f) n = (header_tested _ is).long

  -- the refusals are these nine
  pub why_magic : {s : Refusal} → Why ps s → (s ≡ HeaderWrong → ⊥) → (s ≡ PartsDisagree → ⊥) → (s ≡ RouteWrong → ⊥) → (s ≡ TopicWrong → ⊥) → (s ≡ FieldWrong → ⊥) → (s ≡ VersionWrong → ⊥) → (s ≡ TypeWrong → ⊥) → (s ≡ FlagWrong → ⊥) → s ≡ MagicWrong
  why_magic (length_wrong l) n₆ n₇ n₈ n₉ n₁₀ n₂₁ n₂₂ n₂₃ = absurd (n₆ refl)
  why_magic (magic_wrong l m) n₆ n₇ n₈ n₉ n₁₀ n₂₁ n₂₂ n₂₃ = refl
  why_magic (version_wrong l m v) n₆ n₇ n₈ n₉ n₁₀ n₂₁ n₂₂ n₂₃ = absurd (n₂₁ refl)
  why_magic (type_wrong l m v k) n₆ n₇ n₈ n₉ n₁₀ n₂₁ n₂₂ n₂₃ = absurd (n₂₂ refl)
  why_magic (flag_wrong l m v k f) n₆ n₇ n₈ n₉ n₁₀ n₂₁ n₂₂ n₂₃ = absurd (n₂₃ refl)
  why_magic (parts_disagree is a) n₆ n₇ n₈ n₉ n₁₀ n₂₁ n₂₂ n₂₃ = absurd (n₇ refl)
  why_magic (route_wrong is a r) n₆ n₇ n₈ n₉ n₁₀ n₂₁ n₂₂ n₂₃ = absurd (n₈ refl)
  why_magic (topic_wrong_lem is a t f) n₆ n₇ n₈ n₉ n₁₀ n₂₁ n₂₂ n₂₃ = absurd (n₉ refl)
  why_magic (field_wrong is f) n₆ n₇ n₈ n₉ n₁₀ n₂₁ n₂₂ n₂₃ = absurd (n₁₀ refl)

  -- 8: there are routes
  why_route : {s : Refusal} → Why ps s → s ≡ RouteWrong → has_route (header_of_parts ps).flags ≡ true
  why_route (length_wrong l) e = cc
  why_route (magic_wrong l m) e = cc
  why_route (version_wrong l m v) e = cc
  why_route (type_wrong l m v k) e = cc
  why_route (flag_wrong l m v k f) e = cc
  why_route (parts_disagree is a) e = cc
  why_route (route_wrong is a r) e = some_routes (header_of_parts ps) (front ps) r
  why_route (topic_wrong_lem is a t f) e = cc
  why_route (field_wrong is f) e = cc

  -- 9: the parts agree with type and flags
  why_topic : {s : Refusal} → Why ps s → s ≡ TopicWrong → (is_header (final [] ps) ≡ true) × (parts_agree (header_of_parts ps) (front ps) ≡ true)
  why_topic (length_wrong l) e = cc
  why_topic (magic_wrong l m) e = cc
  why_topic (version_wrong l m v) e = cc
  why_topic (type_wrong l m v k) e = cc
  why_topic (flag_wrong l m v k f) e = cc
  why_topic (parts_disagree is a) e = cc
  why_topic (route_wrong is a r) e = cc
  why_topic (topic_wrong_lem is a t f) e = (is, a)
  why_topic (field_wrong is f) e = cc

-- ---- the byte

pub field_low : (request : Bool) → cond request 12 16 ≤ 16
field_low true = omega arith
field_low false = omega arith

module _ (body : List ℕ) (b : Bytes body) (counts : PartCounts) (o : CountsOf body counts) (short : length body ≤ 32768) where
  abbrev ps : List (List ℕ)
  ps = parts_found body

  whole : body ≡ joined ps
  whole = (split 68 body ps b o.found).same

  pub last_low : counts.last ≤ 32768
  last_low = omega (arith, last_within body b counts o)

  pub group_low : counts.group ≤ 32768
  group_low = omega (arith, group_within body b counts o)

  pub part_low : {at : ℕ} (k : ℕ) → at ≡ length (joined (take k ps)) → at ≤ 32768
  part_low k e = omega (arith, taken_within ps k, ap length whole)

  pub place_6 : {s : Refusal} → s ≡ HeaderWrong → 8 + counts.last ≡ byte_for (number_of s) (fault_bytes ps)
  place_6 e = rw e (omega (arith, o.last))

  module _ {s : Refusal} (w : Why ps s) where
    header_at : (s ≡ HeaderWrong → ⊥) → header_data ps ≡ 8 + counts.last + 1
    header_at no₆ = omega (arith, o.last, header_start ps (why_long w no₆))

    pub place_7 : s ≡ PartsDisagree → 8 + counts.last + 1 ≡ byte_for (number_of s) (fault_bytes ps)
    place_7 e = rw e (sym (header_at (λ z. cc)))

    pub place_20 : s ≡ MagicWrong → 8 + counts.last + 1 ≡ byte_for (number_of s) (fault_bytes ps)
    place_20 e = rw e (sym (header_at (λ z. cc)))

    pub place_21 : s ≡ VersionWrong → 8 + counts.last + 1 + 1 ≡ byte_for (number_of s) (fault_bytes ps)
    place_21 e = rw e (omega (arith, header_at (λ z. cc)))

    pub place_22 : s ≡ TypeWrong → 8 + counts.last + 1 + 2 ≡ byte_for (number_of s) (fault_bytes ps)
    place_22 e = rw e (omega (arith, header_at (λ z. cc)))

    pub place_23 : s ≡ FlagWrong → 8 + counts.last + 1 + 3 ≡ byte_for (number_of s) (fault_bytes ps)
    place_23 e = rw e (omega (arith, header_at (λ z. cc)))

    -- a byte of the header
    head_byte : (s ≡ HeaderWrong → ⊥) → (k : ℕ) → get_or body (counts.last + 1 + k) 0 ≡ get_or (final [] ps) k 0
    head_byte no₆ k = ap (λ (m : ℕ). get_or body (m + 1 + k) 0) o.last ∙ header-byte ps (why_long w no₆) body whole k

    -- a part's data, where the part begins
    starts : {at r : ℕ} (k : ℕ) → at ≡ length (joined (take k ps)) → r ≡ 8 + at + size_length (get_or body at 0) → r ≡ data_start ps k
    starts {at} {r} k e told = told ∙ ap (λ (m : ℕ). 8 + m + size_length (get_or body m 0)) e ∙ data_start_lem body ps whole k

    pub place_8 : s ≡ RouteWrong → {at r : ℕ} → at ≡ length (joined (take (first_malformed 64 ps) ps)) → r ≡ 8 + at + size_length (get_or body at 0) → r ≡ byte_for (number_of s) (fault_bytes ps)
    place_8 e begins told =
        let long = why_long w (λ z. cc) in
        let none : is_route (final [] ps) ≡ false = forms.route_length_lem (final [] ps) (λ z. omega (arith, long)) in
        let is = offending ps long none (why_route w e) in
        rw e (starts (first_malformed 64 ps) begins told ∙ ap (data_start ps) is)

    module _ (e : s ≡ TopicWrong) {flags at : ℕ} (read : flags ≡ get_or body (counts.last + 4) 0) (begins : at ≡ cond (has_route flags) (counts.group + 1) 0) where
      abbrev h : Header
      h = header_of_parts ps

      flags_are : flags ≡ h.flags
      unfolding header_in
      flags_are =
          let there : counts.last + 4 ≡ counts.last + 1 + 3 = omega arith in
          read ∙ ap (λ (m : ℕ). get_or body m 0) there ∙ head_byte (λ z. cc) 3

      headed : Headed body counts h
      headed = record { over = o; short = short; headed = (why_topic w e).0; same = refl }

      topic_begins : at ≡ length (joined (take (topic_index ps) ps))
      topic_begins =
          let agree = (why_topic w e).1 in
          begins ∙ ap (λ (f : ℕ). cond (has_route f) (counts.group + 1) 0) flags_are ∙ sym (group_long body counts h headed agree)
          ∙ ap (λ (qs : List (List ℕ)). length (joined qs)) (sym (group_taken ps (why_long w (λ z. cc)) agree))

      pub topic_low : at ≤ 32768
      topic_low = part_low (topic_index ps) topic_begins

      pub place_9 : {r : ℕ} → r ≡ 8 + at + size_length (get_or body at 0) → r ≡ byte_for (number_of s) (fault_bytes ps)
      place_9 told = rw e (starts (topic_index ps) topic_begins told)

    pub place_10 : s ≡ FieldWrong → {kind offset : ℕ} → kind ≡ get_or body (counts.last + 3) 0 → offset ≡ cond (eqb kind 1) 12 16 → 8 + counts.last + 1 + offset ≡ byte_for (number_of s) (fault_bytes ps)
    unfolding header_in field_byte
    place_10 e {kind} read is =
        let there : counts.last + 3 ≡ counts.last + 1 + 2 = omega arith in
        let same : kind ≡ get_or (final [] ps) 2 0 = read ∙ ap (λ (m : ℕ). get_or body m 0) there ∙ head_byte (λ z. cc) 2 in
        let field = is ∙ ap (λ (k : ℕ). cond (eqb k 1) 12 16) same in
        rw e (omega (arith, header_at (λ z. cc), field))
