-- Whatever has been read, some text of the grammar goes on so.
use Rattle.std.proofs.Common.{◌≡◌, ℕ, zero, suc, ◌+◌, ◌-◌, ◌<◌, ◌≤◌, Bool, true, false, not, List, [], ◌∷◌, length, get_or, Option, Some, None, refl, sym, ap, ◌∙◌, subst, inl, inr, arith}
use Rattle.std.proofs.Common.{lit<}
use Rattle.std.specs.Prelude.{option_map, nat_le, ◌==◌, if◌then◌else◌}
use Rattle.std.specs.Option.{option_and_then}
use Rattle.std.specs.List.{list_all}
use Rattle.std.proofs.lemmas.List.{length_push}
use Rattle.std.proofs.lemmas.Bool.{and_parts, eq-eqb, lt-ltb, le-leb, cond-true, cond-false, not-true, cases_lt, ne_eqb}
use Rattle.tree_text.specs.declared.stage.Word.{Word}
use Rattle.tree_text.specs.declared.stage.Word.TheVariants.{Edges, Colours, Marks}
use Rattle.tree_text.specs.declared.stage.Role.{Role}
use Rattle.tree_text.specs.declared.stage.Role.TheVariants.{FirstEnd, SecondEnd, Degree, Colour, Mark}
use Rattle.tree_text.specs.declared.stage.Stage.{Stage}
use Rattle.tree_text.specs.declared.stage.Stage.TheVariants.{Inside, Start, Number, MoreEdges, MoreColours, FirstMark, NoMarks}
use Rattle.tree_text.specs.declared.parts.Parts.{Parts}
use Rattle.tree_text.specs.declared.reader.Reader.{Reader}
use Rattle.tree_text.specs.Steps.{letters_of, after_word, inside, is_digit, with_edge, with_colour, with_mark, with_parts, after, finished, IsAt}
use Rattle.tree_text.proofs.Runs.{run, parts_after, reading_at}

-- a text from here that may end
pub record Ends (p : Parts) (stage : Stage) : Type 0 where
  pub tail : List ℕ
  pub parts : Parts
  pub are : parts_after (reading_at p stage) tail ≡ Some parts

by_byte : (p q : Parts) (stage next : Stage) (byte : ℕ) → after (reading_at p stage) byte ≡ Some (reading_at q next) → Ends q next → Ends p stage
by_byte p q stage next byte h e = record {
  tail = byte ∷ e.tail;
  parts = e.parts;
  are = ap (λ (o : Option Reader). option_and_then finished (option_and_then (λ s. run s e.tail) o)) h ∙ e.are;
}

-- ---- marks

mark_ends : (p : Parts) (v : ℕ) → Ends p (Number Mark v)
mark_ends p v = record { tail = []; parts = with_mark p v; are = refl }

start_mark_ends : (p : Parts) → Ends p (Start Mark)
unfolding after
start_mark_ends p = by_byte p p (Start Mark) (Number Mark 0) 48 refl (mark_ends p 0)

no_marks_ends : (p : Parts) → Ends p NoMarks
no_marks_ends p = record { tail = []; parts = p; are = refl }

first_mark_ends : (p : Parts) → Ends p FirstMark
unfolding after
first_mark_ends p = by_byte p p FirstMark NoMarks 45 refl (no_marks_ends p)

-- ---- words

not_digits : (letters : List ℕ) (count : ℕ) → list_all (λ b. not (is_digit b)) letters ≡ true → is_digit (get_or letters count 0) ≡ false
not_digits [] count all = refl
not_digits (b ∷ bs) zero all = not-true _ (and_parts _ _ all).0
not_digits (b ∷ bs) (suc count) all = not_digits bs count (and_parts _ _ all).1

no_digits : (word : Word) → list_all (λ b. not (is_digit b)) (letters_of word) ≡ true
no_digits Edges = refl
no_digits Colours = refl
no_digits Marks = refl

after-letter : (p : Parts) (word : Word) (count : ℕ)
    → after (reading_at p (Inside word count)) (get_or (letters_of word) count 0) ≡ Some (reading_at p (inside word (count + 1)))
unfolding after
after-letter p word count =
    cond-false (is_digit (get_or (letters_of word) count 0)) _ _ (not_digits (letters_of word) count (no_digits word))
    ∙ cond-true (get_or (letters_of word) count 0 == get_or (letters_of word) count 0) _ None (eq-eqb _ _ refl)

-- so many letters are left
word_ends : (p : Parts) (word : Word) (left count : ℕ) → count + (1 + left) ≡ length (letters_of word) → Ends p (after_word word)
    → Ends p (Inside word count)
word_ends p word zero count long e =
    let last : (count + 1 == length (letters_of word)) ≡ true = eq-eqb (count + 1) (length (letters_of word)) (omega arith) in
    by_byte p p (Inside word count) (inside word (count + 1)) (get_or (letters_of word) count 0) (after-letter p word count)
    (subst (λ (b : Bool). Ends p (if b then after_word word else Inside word (count + 1))) (sym last) e)
word_ends p word (suc left) count long e =
    let more : (count + 1 == length (letters_of word)) ≡ false = ne_eqb (count + 1) (length (letters_of word)) (λ same. omega arith) in
    by_byte p p (Inside word count) (inside word (count + 1)) (get_or (letters_of word) count 0) (after-letter p word count)
    (subst (λ (b : Bool). Ends p (if b then after_word word else Inside word (count + 1))) (sym more) (word_ends p word left (count + 1) (omega arith) e))

inside_ends : (p : Parts) (word : Word) (count : ℕ) → count < length (letters_of word) → Ends p (after_word word) → Ends p (Inside word count)
inside_ends p word count within e = word_ends p word (length (letters_of word) - (1 + count)) count (omega arith) e

-- ---- colours

two_colours_end : (p : Parts) → 2 ≤ length p.colours → Ends p MoreColours
unfolding after
two_colours_end p enough =
    by_byte p p MoreColours (Inside Marks 1) 109 (cond-true (nat_le 2 (length p.colours)) _ _ (le-leb 2 (length p.colours) enough))
    (inside_ends p Marks 1 (lit< tt) (first_mark_ends p))

second_colour_ends : (p : Parts) (c : ℕ) → 1 ≤ length p.colours → Ends p (Number Colour c)
unfolding after
second_colour_ends p c some =
    let l = length_push p.colours c in
    by_byte p (with_colour p c) (Number Colour c) MoreColours 32 refl (two_colours_end (with_colour p c) (omega arith))

colours_end : (p : Parts) → 1 ≤ length p.colours → Ends p MoreColours
unfolding after
colours_end p some = elim (cases_lt (length p.colours) 2) [
  | inl one ↦
      by_byte p p MoreColours (Number Colour 0) 48
      (ap (λ (b : Bool). option_map (with_parts p) (if b then Some (Number Colour 0) else None)) (lt-ltb (length p.colours) 11 (omega arith)))
      (second_colour_ends p 0 some)
  | inr two ↦ two_colours_end p two
]

colour_ends : (p : Parts) (c : ℕ) → Ends p (Number Colour c)
unfolding after
colour_ends p c =
    let l = length_push p.colours c in
    by_byte p (with_colour p c) (Number Colour c) MoreColours 32 refl (colours_end (with_colour p c) (omega arith))

start_colour_ends : (p : Parts) → Ends p (Start Colour)
unfolding after
start_colour_ends p = by_byte p p (Start Colour) (Number Colour 0) 48 refl (colour_ends p 0)

-- ---- edges

edges_end : (p : Parts) → Ends p MoreEdges
unfolding after
edges_end p = by_byte p p MoreEdges (Inside Colours 1) 99 refl (inside_ends p Colours 1 (lit< tt) (start_colour_ends p))

degree_ends : (p : Parts) (u v a : ℕ) → Ends p (Number (Degree u v) a)
unfolding after
degree_ends p u v a = by_byte p (with_edge p (u, v) a) (Number (Degree u v) a) MoreEdges 32 refl (edges_end (with_edge p (u, v) a))

start_degree_ends : (p : Parts) (u v : ℕ) → Ends p (Start (Degree u v))
unfolding after
start_degree_ends p u v = by_byte p p (Start (Degree u v)) (Number (Degree u v) 0) 48 refl (degree_ends p u v 0)

second_end_ends : (p : Parts) (u v : ℕ) → Ends p (Number (SecondEnd u) v)
unfolding after
second_end_ends p u v = by_byte p p (Number (SecondEnd u) v) (Start (Degree u v)) 58 refl (start_degree_ends p u v)

start_second_ends : (p : Parts) (u : ℕ) → Ends p (Start (SecondEnd u))
unfolding after
start_second_ends p u = by_byte p p (Start (SecondEnd u)) (Number (SecondEnd u) 0) 48 refl (second_end_ends p u 0)

first_end_ends : (p : Parts) (u : ℕ) → Ends p (Number FirstEnd u)
unfolding after
first_end_ends p u = by_byte p p (Number FirstEnd u) (Start (SecondEnd u)) 45 refl (start_second_ends p u)

start_first_ends : (p : Parts) → Ends p (Start FirstEnd)
unfolding after
start_first_ends p = by_byte p p (Start FirstEnd) (Number FirstEnd 0) 48 refl (first_end_ends p 0)

-- ---- all stages

word_to_end : (p : Parts) (word : Word) → Ends p (after_word word)
word_to_end p Edges = start_first_ends p
word_to_end p Colours = start_colour_ends p
word_to_end p Marks = first_mark_ends p

start_ends : (p : Parts) (role : Role) → Ends p (Start role)
start_ends p FirstEnd = start_first_ends p
start_ends p (SecondEnd u) = start_second_ends p u
start_ends p (Degree u v) = start_degree_ends p u v
start_ends p Colour = start_colour_ends p
start_ends p Mark = start_mark_ends p

number_ends : (p : Parts) (role : Role) (n : ℕ) → Ends p (Number role n)
number_ends p FirstEnd n = first_end_ends p n
number_ends p (SecondEnd u) n = second_end_ends p u n
number_ends p (Degree u v) n = degree_ends p u v n
number_ends p Colour n = colour_ends p n
number_ends p Mark n = mark_ends p n

pub ends : (p : Parts) (stage : Stage) → IsAt p stage → Ends p stage
ends p (Inside word count) here = inside_ends p word count here.0 (word_to_end p word)
ends p (Start role) here = start_ends p role
ends p (Number role n) here = number_ends p role n
ends p MoreEdges here = edges_end p
ends p MoreColours here = colours_end p here.colours_least
ends p FirstMark here = first_mark_ends p
ends p NoMarks here = no_marks_ends p
