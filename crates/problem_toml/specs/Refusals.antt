-- What is printed of a refusal.
use Rattle.std.specs.Prelude.{ℕ, List, [], ◌++◌, take, map, codes, decimal, Option, Some, None, nat_le, ◌&&◌, if◌then◌else◌}
use Rattle.std.specs.Fmt.{signed_decimal}
use Rattle.residue.specs.declared.modulus.ModulusError.{ModulusError}
use Rattle.residue.specs.declared.modulus.ModulusError.TheVariants.{Even, TooSmall, TooLarge}
use Rattle.problem_toml.specs.Keys.{key_of}
use Rattle.problem_toml.specs.declared.error.ProblemError.{ProblemError}
use Rattle.problem_toml.specs.declared.error.ProblemError.TheVariants.{NoMemory, TooLong, NotToml, MissingKey, UnknownKey, WrongType, BadVersion, OutOfLimits, WeightCount, ModulusRefused, NotCoprime, ProductTooLarge, BoundsTooWide, UnknownKind, WrongDegree, TooManyTrees}
use Rattle.problem_toml.specs.declared.place.Place.{Place}
use Rattle.problem_toml.specs.declared.place.Place.TheVariants.{Top, Integral, Term, Class}

-- the number of a refusal; want of memory is none
abbrev pub refusal_number : ProblemError → Option ℕ
refusal_number NoMemory = None
refusal_number TooLong = Some 1
refusal_number NotToml = Some 2
refusal_number (MissingKey place name) = Some 3
refusal_number (UnknownKey place key) = Some 4
refusal_number (WrongType place name) = Some 5
refusal_number (BadVersion version) = Some 6
refusal_number (OutOfLimits place name) = Some 7
refusal_number (WeightCount found wanted) = Some 8
refusal_number (ModulusRefused index why) = Some 9
refusal_number (NotCoprime first second) = Some 10
refusal_number ProductTooLarge = Some 11
refusal_number BoundsTooWide = Some 12
refusal_number (UnknownKind term class) = Some 13
refusal_number (WrongDegree term degree dimension) = Some 14
refusal_number TooManyTrees = Some 15

-- where a table is in the text; integrals, terms and classes are counted from 0
abbrev pub place_text : Place → List ℕ
place_text Top = codes "top"
place_text (Integral i) = codes "integral " ++ decimal i
place_text (Term i) = codes "term " ++ decimal i
place_text (Class i j) = codes "class " ++ decimal i ++ codes " " ++ decimal j

-- why a modulus is refused
abbrev pub modulus_text : ModulusError → List ℕ
modulus_text Even = codes "Even"
modulus_text TooSmall = codes "TooSmall"
modulus_text TooLarge = codes "TooLarge"

-- a byte of a key: one outside 32 to 126 shows as `?`
abbrev pub shown_byte : ℕ → ℕ
shown_byte b = if nat_le 32 b && nat_le b 126 then b else 63

-- the first 40 bytes of a key
abbrev pub shown_key : List ℕ → List ℕ
shown_key key = map shown_byte (take 40 key)

-- the number of a refusal, its name and its details, joined by single spaces
abbrev pub refusal_of : ProblemError → List ℕ
refusal_of NoMemory = []
refusal_of TooLong = codes "1 TooLong"
refusal_of NotToml = codes "2 NotToml"
refusal_of (MissingKey place name) = codes "3 MissingKey " ++ place_text place ++ codes " " ++ key_of name
refusal_of (UnknownKey place key) = codes "4 UnknownKey " ++ place_text place ++ codes " " ++ shown_key key
refusal_of (WrongType place name) = codes "5 WrongType " ++ place_text place ++ codes " " ++ key_of name
refusal_of (BadVersion version) = codes "6 BadVersion " ++ signed_decimal version
refusal_of (OutOfLimits place name) = codes "7 OutOfLimits " ++ place_text place ++ codes " " ++ key_of name
refusal_of (WeightCount found wanted) = codes "8 WeightCount " ++ decimal found ++ codes " " ++ decimal wanted
refusal_of (ModulusRefused index why) = codes "9 ModulusRefused " ++ decimal index ++ codes " " ++ modulus_text why
refusal_of (NotCoprime first second) = codes "10 NotCoprime " ++ decimal first ++ codes " " ++ decimal second
refusal_of ProductTooLarge = codes "11 ProductTooLarge"
refusal_of BoundsTooWide = codes "12 BoundsTooWide"
refusal_of (UnknownKind term class) = codes "13 UnknownKind " ++ decimal term ++ codes " " ++ decimal class
refusal_of (WrongDegree term degree dimension) =
    codes "14 WrongDegree " ++ decimal term ++ codes " " ++ decimal degree ++ codes " " ++ decimal dimension
refusal_of TooManyTrees = codes "15 TooManyTrees"
