-- One broker's step on a buffer: "Given the tables, the broker's rank, .. and a buffer with the frame at its front." The step on the message itself is
-- `routed` (step_routing/specs/Routed.antt).
use Rattle.std.specs.Prelude.{ℕ, Result, not, List, ltb, length}
use Rattle.refusal.specs.declared.Refusal.{Refusal}
use Rattle.refusal.specs.declared.Refusal.TheVariants.{OutputShort, TreeWrong, ServicesWrong, IdentitiesWrong, RankWrong}
use Rattle.refusal.specs.Answer.{Answer, refused, answered, refuse_if, and_then, result_of}
use Rattle.frame_message.specs.Frame.{frame_of}
use Rattle.frame_message.specs.Reading.{reading_of}
use Rattle.table_tree.specs.Tree.{ranks_in}
use Rattle.table_tree.specs.Depths.{tree_good}
use Rattle.table_services.specs.Services.{services_good}
use Rattle.table_identities.specs.Identities.{identities_good}
use Rattle.frame_rewrite.specs.Renewed.{cleared}
use Rattle.step_routing.specs.declared.Broker.{Broker}
use Rattle.step_routing.specs.Routed.{Tables, Outcome, delivered, forwarded, replied, silenced, home, routed}
use Rattle.step_routing.specs.declared.Stepped.{Stepped}
use Rattle.step_routing.specs.declared.Stepped.TheVariants.{Delivered, Forwarded, Replied, Silenced, Home}

-- ---- the order of refusals: "Step: 14, 15, 16, 17, reader's numbers, 18, 19, 12, 11"

-- 14, 15, 16, or what comes next where the tables are right
abbrev pub behind_tables : {A : Type 0} → Tables → Answer A → Answer A
behind_tables t next =
    refuse_if (not (tree_good t.tree)) TreeWrong
    (refuse_if (not (services_good t.tree t.services)) ServicesWrong
    (refuse_if (not (identities_good t.tree t.identities)) IdentitiesWrong next))

-- 11: a message that goes on needs room for its frame, and nothing else does: an error reply is never longer than its request
abbrev pub room_for : ℕ → Outcome → Answer Outcome
room_for room (delivered number) = answered (delivered number)
room_for room (forwarded next m) = refuse_if (ltb room (length (frame_of m))) OutputShort (answered (forwarded next m))
room_for room (replied errnum m) = answered (replied errnum m)
room_for room (silenced errnum) = answered (silenced errnum)
room_for room home = answered home

-- 17, the reader's numbers, 18, 19, 12, 11: the step where the tables are known to be right
unfoldable pub pass_of : Tables → Broker → List ℕ → Answer Outcome
pass_of t b buffer =
    refuse_if (not (ltb b.rank (ranks_in t.tree))) RankWrong
    (and_then (reading_of buffer) (λ m. and_then (routed t b m) (room_for (length buffer))))

-- the whole step
unfoldable pub step_of : Tables → Broker → List ℕ → Answer Outcome
step_of t b buffer = behind_tables t (pass_of t b buffer)

-- ---- the buffer: "After 2 and 3 every byte behind the new frame is zero. After 1, 4 and 5 the buffer is unchanged."

abbrev pub left_after : Outcome → List ℕ → List ℕ
left_after (delivered number) buffer = buffer
left_after (forwarded next m) buffer = cleared (frame_of m) buffer
left_after (replied errnum m) buffer = cleared (frame_of m) buffer
left_after (silenced errnum) buffer = buffer
left_after home buffer = buffer

-- "a refused step changes no byte of its buffer"
abbrev pub left_by : Answer Outcome → List ℕ → List ℕ
left_by (refused r) buffer = buffer
left_by (answered o) buffer = left_after o buffer

-- ---- the result

-- what the code says, for each case of the paper's
abbrev pub stepped_of : Outcome → Stepped
stepped_of (delivered number) = Delivered number
stepped_of (forwarded next m) = Forwarded next
stepped_of (replied errnum m) = Replied errnum
stepped_of (silenced errnum) = Silenced errnum
stepped_of home = Home

-- the code's answer
abbrev pub told_as : Answer Outcome → Result Stepped Refusal
told_as = result_of stepped_of
