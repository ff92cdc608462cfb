-- A name's mark, its text and its colon, each where the one before it ends.
use Rattle.std.proofs.Common.{◌≡◌, ◌∙◌, sym, rules}
use Rattle.std.specs.Prelude.{Err}
use Rattle.json_separators.proofs.Names.{name_unmarked, name_marked}
use Rattle.json_separators.proofs.name_end.Goals as goal

pub returns-in_err-text : goal.returns-in_err-text
returns-in_err-text c =
    let stops : c.from_residual.result ≡ Err c.in_err-text.field-0.0 = search rules in
    stops ∙ sym (name_unmarked c.args.bytes.now c.args.at c.in_err-text.ensures)

pub returns-in_err-end : goal.returns-in_err-end
returns-in_err-end c =
    let stops : c.from_residual-in_err-end.result ≡ Err c.in_err-end.field-0.0 = search rules in
    stops ∙ sym (name_marked c.args.bytes.now c.args.at c.in_ok-text.ensures c.in_err-end.ensures)

pub returns-in_err-colon : goal.returns-in_err-colon
returns-in_err-colon c =
    let stops : c.from_residual-in_err-colon.result ≡ Err c.in_err-colon.field-0.0 = search rules in
    stops ∙ c.in_err-colon.ensures ∙ sym (name_marked c.args.bytes.now c.args.at c.in_ok-text.ensures c.in_ok-end.ensures)

pub returns : goal.returns
returns c = c.in_ok-colon.ensures ∙ sym (name_marked c.args.bytes.now c.args.at c.in_ok-text.ensures c.in_ok-end.ensures)
