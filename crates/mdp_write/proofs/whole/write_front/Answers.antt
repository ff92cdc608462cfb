-- The mark, the number, the name and the address are laid one behind the other.
use Rattle.std.proofs.Common.{◌≡◌, refl, sym, ◌∙◌, ℕ, ◌+◌, ◌-◌, ◌≤◌, List, [], ◌∷◌, ◌++◌, length}
use borrow.Rule.Slice.PartMut.{put_mid}
use Rattle.bytes_number.specs.WorkingLays.{Lays}
use Rattle.bytes_number.proofs.Laying.{lays_more, lays_rest, lays_counted}
use Rattle.frame_message.specs.Frame.{part_bytes, joined, part_if}
use Rattle.frame_part_write.proofs.Writing.{part_laid}
use Rattle.mdp_command.specs.Command.{has_name, has_address}
use Rattle.mdp_command.specs.CommandBytes.{mark_of, address_parts}
use Rattle.mdp_write.proofs.Fronts.{front_bytes, mark_room, code_room, name_room, address_room}
use Rattle.mdp_write.proofs.whole.write_front.Goals.{After-write_part}
use Rattle.mdp_write.proofs.whole.write_front.Goals as goal

-- the mark and the number are laid
module _ (p : After-write_part) where
  names : p.has_name-named.result ≡ has_name p.args.command.now.sender p.args.command.now.code
  names = p.has_name-named.ensures ∙ sym p.requires.carried_value.1

  addresses : p.has_address-addressed.result ≡ has_address p.args.command.now.sender p.args.command.now.code
  addresses = p.has_address-addressed.ensures ∙ sym p.requires.carried_value.2

  abbrev upto_mark : List ℕ
  upto_mark = part_bytes (mark_of p.args.command.now.sender)

  abbrev upto_code : List ℕ
  upto_code = upto_mark ++ part_bytes (p.args.command.now.code ∷ [])

  abbrev upto_name : List ℕ
  upto_name = upto_code ++ joined (part_if p.has_name-named.result p.args.command.now.name.now)

  abbrev upto_address : List ℕ
  upto_address = upto_name ++ joined (address_parts p.has_address-addressed.result p.args.command.now.address.now)

  mark_fits : length upto_mark ≤ length p.args.out.now
  mark_fits = mark_room p.args.command.now.sender p.args.command.now.code p.args.command.now.name.now p.args.command.now.address.now names addresses p.requires.address_in_bounds

  code_fits : length upto_code ≤ length p.args.out.now
  code_fits = code_room p.args.command.now.sender p.args.command.now.code p.args.command.now.name.now p.args.command.now.address.now names addresses p.requires.address_in_bounds

  name_fits : length upto_name ≤ length p.args.out.now
  name_fits = name_room p.args.command.now.sender p.args.command.now.code p.args.command.now.name.now p.args.command.now.address.now names addresses p.requires.address_in_bounds

  address_fits : length upto_address ≤ length p.args.out.now
  address_fits = address_room p.args.command.now.sender p.args.command.now.code p.args.command.now.name.now p.args.command.now.address.now names addresses p.requires.address_in_bounds

  mark_laid : Lays upto_mark p.args.out.now p.write_part-code_at.new.out p.write_part-code_at.result
  mark_laid = part_laid p.requires.mark_value mark_fits (p.write_part-code_at.ensures.value, p.write_part-code_at.ensures.out_after)

  abbrev numbered : List ℕ
  numbered = p.args.command.now.code ∷ []

  code_laid : Lays upto_code p.args.out.now (put_mid p.write_part-code_at.result (length p.write_part-code_at.new.out - p.write_part-code_at.result) p.write_part-code_at.new.out p.write_part.new.out) (p.write_part-code_at.result + p.write_part.result)
  code_laid =
      let fits = lays_rest mark_laid (part_bytes numbered) code_fits in
      lays_more mark_laid (part_laid {p = numbered} {q = numbered} refl fits (p.write_part.ensures.value, p.write_part.ensures.out_after))

pub write_address-requires : goal.write_address-requires
write_address-requires c =
    let p = (goal.at.write_address-requires c).After-write_part in
    let room = lays_rest (code_laid p) (joined (part_if c.has_name-named.result c.args.command.now.name.now)) (name_fits p) in
    let name = lays_counted room c.write_part_if.ensures.value c.write_part_if.ensures.out_after in
    lays_rest (lays_more (code_laid p) name) (joined (address_parts c.has_address-addressed.result c.args.command.now.address.now)) (address_fits p)

pub returns : goal.returns
returns c =
    let p = (goal.at.returns c).After-write_part in
    let room = lays_rest (code_laid p) (joined (part_if c.has_name-named.result c.args.command.now.name.now)) (name_fits p) in
    let name = lays_counted room c.write_part_if.ensures.value c.write_part_if.ensures.out_after in
    rw (front_bytes c.args.command.now.sender c.args.command.now.code c.args.command.now.name.now c.args.command.now.address.now (names p) (addresses p))
    (lays_more (lays_more (code_laid p) name) c.write_address.ensures)
