-- The leading parts come in front of those that were counted.
use Rattle.std.proofs.Common.{◌≡◌, ◌≤◌, ℕ, ◌+◌, ◌-◌, ◌*◌, List, length, take, drop, ap, ◌∙◌, arith}
use Rattle.bytes_number.specs.Number.{Bytes}
use Rattle.bytes_number.proofs.Numbers.{bytes_of_lem}
use Rattle.std.specs.Prelude.{Result, Ok, Err}
use Rattle.frame_message.proofs.Parts.{split}
use Rattle.frame_parts.specs.declared.PartCounts.{PartCounts}
use Rattle.frame_parts.specs.declared.Stop.{Stop}
use Rattle.frame_parts.specs.WorkingCounting.{counting_of}
use Rattle.frame_parts.proofs.Passing.{part_from, before_few}
use Rattle.frame_body.specs.WorkingJudging.{parts_found, CountsOf}
use Rattle.frame_body.proofs.Heading.{counting_done, last_within, group_within}
use Rattle.frame_fault.specs.WorkingAlike.{Alike}
use Rattle.frame_fault.proofs.Alikes.{added, added_as, alike_refused, alike_counted}
use Rattle.frame_fault.proofs.Bodies.{stop_low}
use Rattle.frame_fault.proofs.alike.count_alike.Goals as goal

module _ (body : List ℕ) (b : Bytes body) (n : ℕ) (a : Alike body n) (short : length body ≤ 32768) where
  -- the parts behind them were counted of the bytes that are left
  behind : {r : Result PartCounts Stop} → r ≡ counting_of (68 - n) (take (length body - 38 * n) (drop (38 * n) body)) → r ≡ counting_of (68 - n) (drop (38 * n) body)
  behind e = e ∙ ap (counting_of (68 - n)) (part_from body (38 * n))

  -- one of them was refused
  stopped : {stop : Stop} → Err stop ≡ counting_of (68 - n) (take (length body - 38 * n) (drop (38 * n) body)) → Err (record { why = stop.why; at = 38 * n + stop.at }) ≡ counting_of 68 body
  stopped e = alike_refused body b n a (behind e)

  stopped_low : {stop : Stop} → Err stop ≡ counting_of (68 - n) (take (length body - 38 * n) (drop (38 * n) body)) → 38 * n + stop.at ≤ 32768
  stopped_low e = omega (arith, short, stop_low body b (stopped e))

  -- none was
  module _ {rest : PartCounts} (e : Ok rest ≡ counting_of (68 - n) (take (length body - 38 * n) (drop (38 * n) body))) where
    all : Ok (added n rest) ≡ counting_of 68 body
    all = alike_counted body b n a (behind e)

    over : CountsOf body (added n rest)
    over = counting_done body all

    few : length (parts_found body) ≤ 68
    few = (split 68 body (parts_found body) b over.found).few

    count_low : n + rest.count ≤ 68
    count_low = omega (arith, over.count, few)

    empty_low : n + rest.empty ≤ 68
    empty_low = omega (arith, over.empty, before_few (parts_found body), few)

    group_low : 38 * n + rest.group ≤ 32768
    group_low = omega (arith, short, group_within body b _ over)

    last_low : 38 * n + rest.last ≤ 32768
    last_low = omega (arith, short, last_within body b _ over)

pub overflow_add-result-in-Err : goal.overflow_add-result-in-Err
overflow_add-result-in-Err c =
    let b = bytes_of_lem c.args.body.now (λ i. (c.type_inv.body i).fits) in
    omega (arith, stopped_low c.args.body.now b c.args.alike c.requires.1 c.requires.0 c.in-Err.ensures)

pub returns-in-Err : goal.returns-in-Err
returns-in-Err c =
    let b = bytes_of_lem c.args.body.now (λ i. (c.type_inv.body i).fits) in
    stopped c.args.body.now b c.args.alike c.requires.1 c.requires.0 c.in-Err.ensures

pub overflow_add-result : goal.overflow_add-result
overflow_add-result c =
    let b = bytes_of_lem c.args.body.now (λ i. (c.type_inv.body i).fits) in
    omega (arith, count_low c.args.body.now b c.args.alike c.requires.1 c.requires.0 c.in-Ok.ensures)

pub overflow_add-result-in-Ok : goal.overflow_add-result-in-Ok
overflow_add-result-in-Ok c =
    let b = bytes_of_lem c.args.body.now (λ i. (c.type_inv.body i).fits) in
    omega (arith, empty_low c.args.body.now b c.args.alike c.requires.1 c.requires.0 c.in-Ok.ensures)

pub overflow_add-result-in-Ok-2 : goal.overflow_add-result-in-Ok-2
overflow_add-result-in-Ok-2 c =
    let b = bytes_of_lem c.args.body.now (λ i. (c.type_inv.body i).fits) in
    omega (arith, group_low c.args.body.now b c.args.alike c.requires.1 c.requires.0 c.in-Ok.ensures)

pub overflow_add-result-in-Ok-3 : goal.overflow_add-result-in-Ok-3
overflow_add-result-in-Ok-3 c =
    let b = bytes_of_lem c.args.body.now (λ i. (c.type_inv.body i).fits) in
    omega (arith, last_low c.args.body.now b c.args.alike c.requires.1 c.requires.0 c.in-Ok.ensures)

pub returns-in-Ok : goal.returns-in-Ok
returns-in-Ok c =
    let b = bytes_of_lem c.args.body.now (λ i. (c.type_inv.body i).fits) in
    added_as c.args.alike c.in-Ok.rest (omega arith) (omega arith) (omega arith) (omega arith) (all c.args.body.now b c.args.alike c.requires.1 c.requires.0 c.in-Ok.ensures)
