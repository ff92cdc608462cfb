-- Eight bytes make a word, the first its lowest.
use Rattle.std.proofs.Common.{◌∙◌, refl}
use Rattle.json_plain.proofs.Words.{word_from}
use Rattle.json_plain.proofs.word_at.Goals as goal

pub returns : goal.returns
returns c = c.from_le_bytes.ensures ∙ word_from c.args.bytes.now c.args.at c.requires refl refl refl refl refl refl refl refl
