-- "Text must be valid UTF-8" (paper 02, ticket 2): a character of more than one byte, by RFC 3629, section 4.
use Rattle.json_grammar.specs.Language.{Language, byte, range, ◌then◌, ◌or◌, times}

-- UTF8-tail = %x80-BF
abbrev pub tail : Language
tail = range 128 191

-- UTF8-2 = %xC2-DF UTF8-tail
abbrev pub two_bytes : Language
two_bytes = range 194 223 then tail

-- UTF8-3 = %xE0 %xA0-BF UTF8-tail / %xE1-EC 2( UTF8-tail ) / %xED %x80-9F UTF8-tail / %xEE-EF 2( UTF8-tail )
abbrev pub three_bytes : Language
three_bytes = (byte 224 then range 160 191 then tail) or (range 225 236 then times 2 tail) or (byte 237 then range 128 159 then tail) or (range 238 239 then times 2 tail)

-- UTF8-4 = %xF0 %x90-BF 2( UTF8-tail ) / %xF1-F3 3( UTF8-tail ) / %xF4 %x80-8F 2( UTF8-tail )
abbrev pub four_bytes : Language
four_bytes = (byte 240 then range 144 191 then times 2 tail) or (range 241 243 then times 3 tail) or (byte 244 then range 128 143 then times 2 tail)
