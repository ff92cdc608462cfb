-- By how many bytes come behind its first.
use Rattle.std.proofs.Common.{◌≡◌, ◌∙◌, ℕ, ◌+◌, ◌-◌, ◌<◌, List, ◌∷◌, length, get_or, drop, replicate, sym, ap, arith}
use Rattle.json_scan.specs.Scan.{Class, second_of, tail, tails_of}
use Rattle.json_scan.specs.WorkingEnds.{Reached, rest_end}
use Rattle.json_scan.proofs.Scanning.{inside}
use Rattle.json_utf8.specs.WorkingCharacters.{character_end}
use Rattle.json_utf8.proofs.Leads.{no_lead_below, no_tails, second_first}
use Rattle.json_utf8.proofs.character_end.Goals as goal

-- where bytes come behind it, its first byte is there
there : (bytes : List ℕ) (at lead : ℕ) → lead ≡ get_or bytes at 0 → 0 < length (tails_of lead) → at < length bytes
there bytes at lead is some = inside bytes at (λ z. omega (arith, some, no_lead_below lead (omega (arith, is, z))))

-- the second byte and so many tails, where so many come behind it
onward :
    (bytes : List ℕ) (at lead n : ℕ) {r : Reached} → lead ≡ get_or bytes at 0 → 1 + n ≡ length (tails_of lead) →
    r ≡ rest_end (second_of lead ∷ replicate n tail) (at + 1) (drop (at + 1) bytes) → r ≡ character_end at (tails_of (get_or bytes at 0)) (drop (at + 1) bytes)
onward bytes at lead n is many told =
    let less : n ≡ length (tails_of lead) - 1 = omega (arith, many) in
    told
    ∙ ap (λ (m : ℕ). rest_end (second_of lead ∷ replicate m tail) (at + 1) (drop (at + 1) bytes)) less
    ∙ ap (λ (ks : List Class). character_end at ks (drop (at + 1) bytes)) (sym (second_first lead (omega (arith, many))))
    ∙ ap (λ (l : ℕ). character_end at (tails_of l) (drop (at + 1) bytes)) is

pub returns-in-0 : goal.returns-in-0
returns-in-0 c =
    let xs = drop (c.args.at + 1) c.args.bytes.now in
    let none = no_tails (tails_of c.byte_at-lead.result) (omega (arith, c.tails_behind.ensures, c.in-0.is)) in
    ap (λ (ks : List Class). character_end c.args.at ks xs) (sym none) ∙ ap (λ (lead : ℕ). character_end c.args.at (tails_of lead) xs) c.byte_at-lead.ensures

pub overflow_add-at : goal.overflow_add-at
overflow_add-at c = let l = there c.args.bytes.now c.args.at _ c.byte_at-lead.ensures (omega (arith, c.tails_behind.ensures, c.in-1.is)) in omega (arith, l)

pub overflow_add-at-in-2 : goal.overflow_add-at-in-2
overflow_add-at-in-2 c = let l = there c.args.bytes.now c.args.at _ c.byte_at-lead.ensures (omega (arith, c.tails_behind.ensures, c.in-2.is)) in omega (arith, l)

pub overflow_add-at-in_default : goal.overflow_add-at-in_default
overflow_add-at-in_default c = let l = there c.args.bytes.now c.args.at _ c.byte_at-lead.ensures (omega (arith, c.tails_behind.ensures)) in omega (arith, l)

pub returns-in-1 : goal.returns-in-1
returns-in-1 c = onward c.args.bytes.now c.args.at _ 0 c.byte_at-lead.ensures (omega (arith, c.tails_behind.ensures, c.in-1.is)) c.second_end.ensures

pub returns-in-2 : goal.returns-in-2
returns-in-2 c = onward c.args.bytes.now c.args.at _ 1 c.byte_at-lead.ensures (omega (arith, c.tails_behind.ensures, c.in-2.is)) c.second_end-in-2.ensures

pub returns-in_default : goal.returns-in_default
returns-in_default c = onward c.args.bytes.now c.args.at _ _ c.byte_at-lead.ensures (omega (arith, c.tails_behind.ensures)) c.second_end-in_default.ensures
