-- 34 and 35, of a command with a name, which is the third part.
use Rattle.std.proofs.Common.{◌≡◌, ℕ, ◌-◌, List, Option, Some, Ok, Err, length, take, drop, arith, rules, sym, ap, ◌∙◌}
use Rattle.refusal.specs.declared.Refusal.TheVariants.{PartCountWrong}
use Rattle.frame_message.specs.declared.Stretch.{Stretch}
use Rattle.frame_part_size.specs.WorkingSizes.{size_at}
use Rattle.frame_parts.proofs.Passing.{part_from}
use Rattle.mdp_rules.proofs.Rules.{with_name}
use Rattle.mdp_read.proofs.Judging.{nine_at_least, named_uncounted, named_right, named_within, named_bad, named_good}
use Rattle.mdp_read.proofs.judge.Opened.named.Goals as goal

-- a size was read of the bytes behind the first two parts
found : (b : List ℕ) {r : Option Stretch} {size : Stretch} → r ≡ Some size → r ≡ size_at (take (length b - 9) (drop 9 b)) → Some size ≡ size_at (drop 9 b)
found b was is = sym was ∙ is ∙ ap size_at (part_from b 9)

pub returns-in_err-parts : goal.returns-in_err-parts
returns-in_err-parts c =
    let told : c.from_residual.result ≡ Err PartCountWrong = search rules in
    told ∙ named_uncounted c.requires.opened.over (with_name _ _ _ c.requires.opened.carried c.requires.has_name) c.in_err-parts.ensures.1

pub slice_bounds-size_at-count : goal.slice_bounds-size_at-count
slice_bounds-size_at-count c = nine_at_least c.requires.opened.over

pub slice_bounds-size_at-start : goal.slice_bounds-size_at-start
slice_bounds-size_at-start c = omega (arith, nine_at_least c.requires.opened.over)

-- its size was found right when the parts were counted
pub returns-in_err-size : goal.returns-in_err-size
returns-in_err-size c =
    let none = sym c.in_err-size.ensures.ok_part ∙ c.size_at.ensures ∙ ap size_at (part_from c.args.self.now.bytes.now 9) in
    absurd (named_right c.requires.opened.over (with_name _ _ _ c.requires.opened.carried c.requires.has_name) c.in_ok-parts.ensures.0 none)

pub overflow_add-next : goal.overflow_add-next
overflow_add-next c =
    let r = c.requires.opened in
    let finds = found c.args.self.now.bytes.now c.in_ok-size.ensures.ok_part c.size_at.ensures in
    omega (arith, named_within r.over (with_name _ _ _ r.carried c.requires.has_name) c.in_ok-parts.ensures.0 finds)

pub slice_bounds-is_name-end : goal.slice_bounds-is_name-end
slice_bounds-is_name-end c =
    let r = c.requires.opened in
    let finds = found c.args.self.now.bytes.now c.in_ok-size.ensures.ok_part c.size_at.ensures in
    omega (arith, named_within r.over (with_name _ _ _ r.carried c.requires.has_name) c.in_ok-parts.ensures.0 finds)

pub placed-requires : goal.placed-requires
placed-requires c =
    let r = c.requires.opened in
    let finds = found c.args.self.now.bytes.now c.in_ok-size.ensures.ok_part c.size_at.ensures in
    named_within r.over (with_name _ _ _ r.carried c.requires.has_name) c.in_ok-parts.ensures.0 finds

pub returns-then-not-is_name : goal.returns-then-not-is_name
returns-then-not-is_name c =
    let r = c.requires.opened in
    let p = c.in_ok-parts.ensures in
    let finds = found c.args.self.now.bytes.now c.in_ok-size.ensures.ok_part c.size_at.ensures in
    named_bad r.over (with_name _ _ _ r.carried c.requires.has_name) p.0 finds p.2 (sym c.is_name.ensures ∙ c.if-not-is_name.true)

pub returns : goal.returns
returns c =
    let r = c.requires.opened in
    let p = c.in_ok-parts.ensures in
    let finds = found c.args.self.now.bytes.now c.in_ok-size.ensures.ok_part c.size_at.ensures in
    ap Ok c.placed.ensures ∙ named_good r.over (with_name _ _ _ r.carried c.requires.has_name) p.0 finds p.2 (sym c.is_name.ensures ∙ c.if-not-is_name.false) (sym r.carried.3) p.1
