-- A value, and what stands in an object or an array: item by item from the opening byte to the closing one.
use Rattle.std.specs.Prelude.{Option, Ok}
use Rattle.std.proofs.Common.{◌≡◌, ◌∙◌, sym, ap, ℕ, ◌+◌, List, drop, arith}
use mathlib.Core.Path.{subst⁻¹}
use Rattle.json_scan.specs.declared.Fault.{Fault}
use Rattle.json_scan.specs.declared.Token.{Token}
use Rattle.json_scan.specs.Scan.{is_white, in_object, in_array, name, value, behind, between, text}
use Rattle.json_scan.specs.WorkingEnds.{token_at}
use Rattle.json_scan.specs.WorkingReads.{Came, came, ReadsOn}
use Rattle.json_scan.proofs.Scanning.{inside}
use Rattle.json_scan.proofs.Reading.{reads_more, reads_then, reads_failed}
use Rattle.json_scan.proofs.White.{token_told, reads_white, token_there, token_dark}
use Rattle.json_string.specs.WorkingText.{text_end}
use Rattle.json_string.proofs.Texts.{text_reads}
use Rattle.json_scalar.specs.WorkingScalars.{scalar_end}
use Rattle.json_scalar.proofs.Scalars.{scalar_reads}
use Rattle.json_separators.specs.WorkingSeparators.{name_end}
use Rattle.json_separators.proofs.Names.{name_reads}
use Rattle.json_check.specs.WorkingNested.{left_by, Stands}
use Rattle.json_check.proofs.Nesting.{begins_text, nest_closed, inside_first, inside_held, inside_failed, held_more, held_closed, held_neither, more_further, opened_nest, opened_stop, reads_opened}
use Rattle.json_check.proofs.+array_end_object_end_value_end.Goals as goal

-- where a reader told nothing, what it left is the fault
abbrev left_in : Fault → Option ℕ → Came
left_in fault read = left_by read fault

-- an item of an array: white space and a value
item :
    {bytes : List ℕ} {room i : ℕ} {t : Token} {r : Came} → t ≡ token_at bytes i → ReadsOn bytes room t.at (between value) (between behind) r →
    ReadsOn bytes room i (between value) (between behind) r
item told reads = reads_white (token_told _ _ told).end reads

-- a name
named : {bytes : List ℕ} {room i : ℕ} {r : Came} → r ≡ came (name_end bytes i) → ReadsOn bytes room i (between name) (between value) r
named {bytes} {room} {i} told = subst⁻¹ (ReadsOn bytes room i (between name) (between value)) told (name_reads bytes i room)

-- a member of an object: its name, white space and a value
member :
    {bytes : List ℕ} {room i v : ℕ} {t : Token} {r : Came} → Ok v ≡ came (name_end bytes i) →
    t ≡ token_at bytes v → ReadsOn bytes room t.at (between value) (between behind) r → ReadsOn bytes room i (between name) (between behind) r
member told first reads = reads_then (named told) (item first reads)

-- ---- an array

pub array_end-overflow_add-result : goal.array_end-overflow_add-result
array_end-overflow_add-result t c = let l = token_there (token_told _ _ c.token_at-first.ensures) (λ e. omega (arith, e)) in omega (arith, l)

pub array_end-returns-then-first-eq93 : goal.array_end-returns-then-first-eq93
array_end-returns-then-first-eq93 t c = opened_nest (omega arith) (nest_closed _ in_array (token_told _ _ c.token_at-first.ensures) (omega arith))

pub array_end-loop-end-init : goal.array_end-loop-end-init
array_end-loop-end-init t c = inside_first _ in_array (token_told _ _ c.token_at-first.ensures) (λ e. omega (arith, e))

pub array_end-value_end-requires : goal.array_end-value_end-requires
array_end-value_end-requires t c =
    let first = token_told _ _ c.token_at-t.ensures in
    (omega (arith, c.decreases), record { there = first.there; dark = token_dark first })

pub array_end-returns-in_err-end : goal.array_end-returns-in_err-end
array_end-returns-in_err-end t c =
    opened_stop (omega arith) (ap (left_in c.value_end.new.fault) c.from_residual.ensures) (inside_failed c.loop-end.invariant (item c.token_at-t.ensures c.in_err-end.ensures))

pub array_end-returns-in_err-k : goal.array_end-returns-in_err-k
array_end-returns-in_err-k t c =
    opened_stop (omega arith) (ap (left_in c.told.new.fault) c.from_residual-in_err-k.ensures)
    (held_neither (inside_held c.loop-end.invariant (item c.token_at-t.ensures c.in_ok-end.ensures)) (c.in_err-k.ensures ∙ ap came c.next_value.ensures))

pub array_end-loop-end-smaller : goal.array_end-loop-end-smaller
array_end-loop-end-smaller t c =
    let m = more_further _ _ _ (ap Ok (sym c.in-More.is) ∙ c.in_ok-k.ensures ∙ ap came c.next_value.ensures) in
    let on = (item c.token_at-t.ensures c.in_ok-end.ensures).onward in
    omega (arith, m.0, m.1, on)

pub array_end-loop-end-preserved : goal.array_end-loop-end-preserved
array_end-loop-end-preserved t c =
    held_more (inside_held c.loop-end.invariant (item c.token_at-t.ensures c.in_ok-end.ensures)) (ap Ok (sym c.in-More.is) ∙ c.in_ok-k.ensures ∙ ap came c.next_value.ensures)

pub array_end-returns-in-Closed : goal.array_end-returns-in-Closed
array_end-returns-in-Closed t c =
    opened_nest (omega arith)
    (held_closed (inside_held c.loop-end.invariant (item c.token_at-t.ensures c.in_ok-end.ensures)) (ap Ok (sym c.in-Closed.is) ∙ c.in_ok-k.ensures ∙ ap came c.next_value.ensures))

-- ---- an object

pub object_end-overflow_add-result : goal.object_end-overflow_add-result
object_end-overflow_add-result t c = let l = token_there (token_told _ _ c.token_at-first.ensures) (λ e. omega (arith, e)) in omega (arith, l)

pub object_end-returns-then-first-eq125 : goal.object_end-returns-then-first-eq125
object_end-returns-then-first-eq125 t c = opened_nest (omega arith) (nest_closed _ in_object (token_told _ _ c.token_at-first.ensures) (omega arith))

pub object_end-loop-name-init : goal.object_end-loop-name-init
object_end-loop-name-init t c = inside_first _ in_object (token_told _ _ c.token_at-first.ensures) (λ e. omega (arith, e))

pub object_end-returns-in_err-name : goal.object_end-returns-in_err-name
object_end-returns-in_err-name t c =
    opened_stop (omega arith) (ap (left_in c.told.new.fault) c.from_residual.ensures)
    (inside_failed c.loop-name.invariant (reads_failed (named (c.in_err-name.ensures ∙ ap came c.name_end.ensures))))

pub object_end-value_end-requires : goal.object_end-value_end-requires
object_end-value_end-requires t c =
    let first = token_told _ _ c.token_at-t.ensures in
    (omega (arith, c.decreases), record { there = first.there; dark = token_dark first })

pub object_end-returns-in_err-end : goal.object_end-returns-in_err-end
object_end-returns-in_err-end t c =
    opened_stop (omega arith) (ap (left_in c.value_end.new.fault) c.from_residual-in_err-end.ensures)
    (inside_failed c.loop-name.invariant (member (c.in_ok-name.ensures ∙ ap came c.name_end.ensures) c.token_at-t.ensures c.in_err-end.ensures))

pub object_end-returns-in_err-k : goal.object_end-returns-in_err-k
object_end-returns-in_err-k t c =
    opened_stop (omega arith) (ap (left_in c.told-in-loop-name.new.fault) c.from_residual-in_err-k.ensures)
    (held_neither (inside_held c.loop-name.invariant (member (c.in_ok-name.ensures ∙ ap came c.name_end.ensures) c.token_at-t.ensures c.in_ok-end.ensures))
    (c.in_err-k.ensures ∙ ap came c.next_value.ensures))

pub object_end-loop-name-smaller : goal.object_end-loop-name-smaller
object_end-loop-name-smaller t c =
    let m = more_further _ _ _ (ap Ok (sym c.in-More.is) ∙ c.in_ok-k.ensures ∙ ap came c.next_value.ensures) in
    let on = (member (c.in_ok-name.ensures ∙ ap came c.name_end.ensures) c.token_at-t.ensures c.in_ok-end.ensures).onward in
    omega (arith, m.0, m.1, on)

pub object_end-loop-name-preserved : goal.object_end-loop-name-preserved
object_end-loop-name-preserved t c =
    held_more (inside_held c.loop-name.invariant (member (c.in_ok-name.ensures ∙ ap came c.name_end.ensures) c.token_at-t.ensures c.in_ok-end.ensures))
    (ap Ok (sym c.in-More.is) ∙ c.in_ok-k.ensures ∙ ap came c.next_value.ensures)

pub object_end-returns-in-Closed : goal.object_end-returns-in-Closed
object_end-returns-in-Closed t c =
    opened_nest (omega arith)
    (held_closed (inside_held c.loop-name.invariant (member (c.in_ok-name.ensures ∙ ap came c.name_end.ensures) c.token_at-t.ensures c.in_ok-end.ensures))
    (ap Ok (sym c.in-Closed.is) ∙ c.in_ok-k.ensures ∙ ap came c.next_value.ensures))

-- ---- a value

-- a string, and any other value that holds none, whatever its reader told
string :
    {bytes : List ℕ} {room at first : ℕ} {r : Came} → Stands bytes at first → first ≡ 34 → r ≡ came (text_end (at + 1) (drop (at + 1) bytes)) →
    ReadsOn bytes room at (between value) (between behind) r
string {bytes} {room} {at} stands e told =
    subst⁻¹ (ReadsOn bytes room at (between value) (between behind)) told
    (reads_more (text behind) (inside bytes at (λ z. omega (arith, stands.there, z, e))) (λ around. begins_text around _ (omega (arith, stands.there, e))) (text_reads bytes (at + 1) behind room))

scalar :
    {bytes : List ℕ} {room at first : ℕ} {r : Came} → Stands bytes at first → (first ≡ 34 → ⊥) → (first ≡ 123 → ⊥) → (first ≡ 91 → ⊥) → r ≡ came (scalar_end at (drop at bytes)) →
    ReadsOn bytes room at (between value) (between behind) r
scalar {bytes} {room} {at} stands q o a told =
    subst⁻¹ (ReadsOn bytes room at (between value) (between behind)) told
    (scalar_reads bytes at
    (λ l. record { dark = ap is_white (sym stands.there) ∙ stands.dark l; no_string = λ e. q (stands.there ∙ e); no_object = λ e. o (stands.there ∙ e); no_array = λ e. a (stands.there ∙ e) })
    room)

pub value_end-returns-in-34 : goal.value_end-returns-in-34
value_end-returns-in-34 t c = string c.requires c.in-34.is (c.told.ensures ∙ ap came c.text_end.ensures)

pub value_end-returns-in-123 : goal.value_end-returns-in-123
value_end-returns-in-123 t c = reads_opened in_object _ _ (inside c.args.bytes.now c.args.at (λ z. omega (arith, c.requires.there, z))) (omega (arith, c.requires.there)) c.object_end.ensures

pub value_end-returns-in-91 : goal.value_end-returns-in-91
value_end-returns-in-91 t c = reads_opened in_array _ _ (inside c.args.bytes.now c.args.at (λ z. omega (arith, c.requires.there, z))) (omega (arith, c.requires.there)) c.array_end.ensures

pub value_end-returns-in_default : goal.value_end-returns-in_default
value_end-returns-in_default t c = scalar c.requires (λ e. omega (arith, e)) (λ e. omega (arith, e)) (λ e. omega (arith, e)) (c.told-in_default.ensures ∙ ap came c.scalar_end.ensures)
