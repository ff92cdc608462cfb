-- What a chain says of a record.
use Rattle.std.specs.Prelude.{◌≡◌, Bool, true, false}
use Rattle.table_distinct.specs.declared.Seen.{Seen}
use Rattle.table_distinct.specs.declared.Seen.TheVariants.{New, Twice, Crowded}

-- of a test whether the record is new: that it holds, that it does not, or nothing
abbrev pub Sees : Bool → Seen → Type 0
Sees new New = new ≡ true
Sees new Twice = new ≡ false
Sees new Crowded = Unit {0}
