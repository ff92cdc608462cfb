-- The paper's numbers: "Numbers for a no".
use Rattle.std.specs.Prelude.{ℕ}
use Rattle.refusal.specs.declared.Refusal.{Refusal}
use Rattle.refusal.specs.declared.Refusal.TheVariants.{InputShort, StartWrong, BodyLong, PartWrong, PartsMany, HeaderWrong, PartsDisagree, RouteWrong, TopicWrong, FieldWrong, OutputShort, ForwardLong, TreeWrong, ServicesWrong, IdentitiesWrong, RankWrong, NotRouted, NoNeighbour, MagicWrong, VersionWrong, TypeWrong, FlagWrong, JsonDeep}
use Rattle.refusal.specs.declared.Refusal.TheVariants.{CommandPartWrong, CommandLong, MarkWrong, CommandWrong, PartCountWrong, NameWrong, AddressWrong, SeparatorWrong}

abbrev pub number_of : Refusal → ℕ
-- "fewer than 8 bytes, or fewer than 8 plus the body length"
number_of InputShort = 1
-- "first four bytes wrong"
number_of StartWrong = 2
-- "body above 32,768"
number_of BodyLong = 3
-- "a part's size or data passes the body's end, or a 4-byte size below 255"
number_of PartWrong = 4
-- "a 69th part begins"
number_of PartsMany = 5
-- "no part or wrong header length" (paper 02, ticket 4)
number_of HeaderWrong = 6
-- "parts disagree with type or flags"
number_of PartsDisagree = 7
-- "a route not of the form, or above 64"
number_of RouteWrong = 8
-- "topic not of the form"
number_of TopicWrong = 9
-- "request nodeid 4294967294; event's unused field not zero"
number_of FieldWrong = 10
-- "a lent output too short"
number_of OutputShort = 11
-- "forwarding would make 65 routes or a body above 32,768"
number_of ForwardLong = 12
-- "tree, services, identities wrong (a wrong length included)"
number_of TreeWrong = 14
number_of ServicesWrong = 15
number_of IdentitiesWrong = 16
-- "rank not in the tree"
number_of RankWrong = 17
-- "step or walk given an event or control"
number_of NotRouted = 18
-- "a response's top route is a broker that is no neighbour, itself included"
number_of NoNeighbour = 19
-- "20 magic, 21 version, 22 type, 23 flag 80" (paper 02, ticket 4)
number_of MagicWrong = 20
number_of VersionWrong = 21
number_of TypeWrong = 22
number_of FlagWrong = 23
-- "at most 32 deep with the outer object as 1; deeper is 26" (paper 02, ticket 2)
number_of JsonDeep = 26
-- "30 a part's size as in 4", and so on to 37 (paper 02, ticket 5, which has them in the order 31, 30, 32 to 37)
number_of CommandPartWrong = 30
-- "31 too many bytes"
number_of CommandLong = 31
-- "32 first part wrong or missing"
number_of MarkWrong = 32
-- "33 command likewise"
number_of CommandWrong = 33
-- "34 number of parts"
number_of PartCountWrong = 34
-- "35 name"
number_of NameWrong = 35
-- "36 address"
number_of AddressWrong = 36
-- "37 separator not empty"
number_of SeparatorWrong = 37
