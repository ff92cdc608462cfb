use Rattle.std.proofs.Common.{length, ◌+◌, ◌-◌}
use Rattle.json_scan.specs.Scan.{in_object, in_array}
use Rattle.json_check.proofs.Nesting.{Inside}
use Rattle.json_check.proofs.+array_end_object_end_value_end.Given as goal

-- a value calls the reader of an object or an array with as many levels, and those call it with one less
abbrev pub decreases-array_end : goal.decreases-array_end
decreases-array_end l = l.room + l.room

abbrev pub decreases-object_end : goal.decreases-object_end
decreases-object_end l = l.room + l.room

abbrev pub decreases-value_end : goal.decreases-value_end
decreases-value_end l = l.room + l.room + 1

abbrev pub invariant-array_end-loop-end : goal.invariant-array_end-loop-end
invariant-array_end-loop-end l = Inside l.bytes (l.room - 1) (l.at + 1) in_array l.i

abbrev pub decreases-array_end-loop-end : goal.decreases-array_end-loop-end
decreases-array_end-loop-end l = length l.bytes - l.i

abbrev pub invariant-object_end-loop-name : goal.invariant-object_end-loop-name
invariant-object_end-loop-name l = Inside l.bytes (l.room - 1) (l.at + 1) in_object l.i

abbrev pub decreases-object_end-loop-name : goal.decreases-object_end-loop-name
decreases-object_end-loop-name l = length l.bytes - l.i
