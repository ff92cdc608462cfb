-- Each row of the ticket: what the reader's number tells of the parts is what the row says, and the byte is the row's.
use mathlib.Core.Path.{◌≡◌, sym, ap, ◌∙◌}
use Prim.Native.Nat.{ℕ, ◌+◌, ◌≤◌}
use mathlib.Core.List.{List, []}
use lib.ListN.{length}
use Rattle.refusal.specs.declared.Refusal.{Refusal}
use Rattle.refusal.specs.Refusals.{number_of}
use Rattle.frame_message.specs.Frame.{joined}
use Rattle.frame_message.specs.Reading.{front, final, body_length}
use Rattle.frame_message.proofs.Headers.{header_tested}
use Rattle.frame_fault.specs.Fault.{body_in, fault_bytes, byte_for}
use Rattle.frame_fault.specs.WorkingFaults as why
use Rattle.frame_fault.specs.WorkingFaults.{Long, Why}
use Rattle.claim_faults.specs.Faults.{FaultAt, parts_disagree, magic_wrong, version_wrong, type_wrong, flag_wrong}
use Rattle.claim_faults.proofs.Frames.{in_frame, magic_is, version_is, type_is, flags_are, right_header}
use Rattle.claim_faults.proofs.EachRow.{told_at, last_part, header_is_at, route_row, topic_row, field_row}

module _ (b : List ℕ) (fits : 8 + body_length b ≤ length b) (ps : List (List ℕ)) (whole : body_in b ≡ joined ps) where
  abbrev fore : List (List ℕ)
  fore = front ps

  abbrev p : List ℕ
  p = final [] ps

  pub part_row : {r : Refusal} → Why ps r → FaultAt b (number_of r) (byte_for (number_of r) (fault_bytes ps))
  part_row (why.length_wrong n) = last_part b ps whole n
  part_row (why.magic_wrong long m) =
      told_at (header_is_at b fits ps whole long) (magic_wrong fore p (in_frame b fits ps whole long) (λ e. m (sym (magic_is b fits ps whole long) ∙ e)))
  part_row (why.version_wrong long m v) =
      told_at (ap (λ (x : ℕ). x + 1) (header_is_at b fits ps whole long))
      (version_wrong fore p (in_frame b fits ps whole long) (magic_is b fits ps whole long ∙ m) (λ e. v (sym (version_is b fits ps whole long) ∙ e)))
  part_row (why.type_wrong long m v k) =
      told_at (ap (λ (x : ℕ). x + 2) (header_is_at b fits ps whole long))
      (type_wrong fore p (in_frame b fits ps whole long) (magic_is b fits ps whole long ∙ m) (version_is b fits ps whole long ∙ v) (rw (type_is b fits ps whole long) k))
  part_row (why.flag_wrong long m v k f) =
      told_at (ap (λ (x : ℕ). x + 3) (header_is_at b fits ps whole long))
      (flag_wrong fore p (in_frame b fits ps whole long) (magic_is b fits ps whole long ∙ m) (version_is b fits ps whole long ∙ v) (rw (type_is b fits ps whole long) k) (rw (flags_are b fits ps whole long) f))
  part_row (why.parts_disagree is a) =
      let long = (header_tested p is).long in
      told_at (header_is_at b fits ps whole long) (parts_disagree fore p (right_header b fits ps whole long is) a)
  part_row (why.route_wrong is a r) = route_row b fits ps whole is r
  part_row (why.topic_wrong_lem is a t w) = topic_row b fits ps whole is a t w
  part_row (why.field_wrong is f) = field_row b fits ps whole is f
