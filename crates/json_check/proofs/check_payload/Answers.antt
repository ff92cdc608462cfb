-- What the outer object comes to is what the payload comes to.
use Rattle.std.specs.Prelude.{Option}
use mathlib.Core.Path.{subst}
use Rattle.std.proofs.Common.{◌≡◌, ◌∙◌, sym, ℕ, ◌<◌, List, [], length, get_or, arith}
use Rattle.json_scan.specs.declared.Fault.{Fault}
use Rattle.json_scan.specs.Scan.{is_white, in_object, behind, between, scan, depth_limit, verdict_of}
use Rattle.json_scan.specs.WorkingEnds.{end_of}
use Rattle.json_scan.specs.WorkingReads.{Came, resumed}
use Rattle.json_check.specs.WorkingNested.{left_by, Opened}
use Rattle.json_check.proofs.Nesting.{reads_opened}
use Rattle.json_check.proofs.Outer.{judged_over, judged_wrong, judged-object}
use Rattle.json_check.proofs.check_payload.Goals as goal

whole :
    (bytes : List ℕ) (i : ℕ) (r : Came) → i ≡ end_of is_white bytes 0 → i < length bytes → get_or bytes i 0 ≡ 123 → Opened bytes 32 i in_object r →
    resumed bytes (scan depth_limit (between behind) []) r ≡ verdict_of bytes
whole bytes i r end l e opened = judged-object bytes i end e r (reads_opened in_object 32 i l e opened)

pub returns-then-i-bytes : goal.returns-then-i-bytes
returns-then-i-bytes c = judged_over c.args.bytes.now c.white_end-i.result c.white_end-i.ensures (omega arith)

pub returns-then-bytes-i-ne123 : goal.returns-then-bytes-i-ne123
returns-then-bytes-i-ne123 c = judged_wrong c.args.bytes.now c.white_end-i.result c.white_end-i.ensures (omega arith) (λ e. omega (arith, e))

-- the reader of the outer object told this
opened : {bytes : List ℕ} {i : ℕ} {o p : Option ℕ} (fault : Fault) → o ≡ p → Opened bytes 32 i in_object (left_by o fault) → Opened bytes 32 i in_object (left_by p fault)
opened {bytes} {i} fault is = subst (λ (o : Option ℕ). Opened bytes 32 i in_object (left_by o fault)) is

-- what it told is what the whole comes to:
-- where it read nothing, the fault that it left
pub returns-in-None : goal.returns-in-None
returns-in-None c = whole c.args.bytes.now c.white_end-i.result _ c.white_end-i.ensures (omega arith) (omega arith) (opened _ c.in-None.is c.object_end.ensures)

pub returns-in-Some : goal.returns-in-Some
returns-in-Some c = sym (c.payload_end.ensures depth_limit) ∙ whole c.args.bytes.now c.white_end-i.result _ c.white_end-i.ensures (omega arith) (omega arith) (opened _ c.in-Some.is c.object_end.ensures)
