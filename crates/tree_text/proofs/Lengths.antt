-- No text of the grammar is long.
use Rattle.std.proofs.Common.{◌≡◌, ℕ, suc, ◌*◌, ◌≤◌, true, ◌&&◌, List, [], ◌∷◌, ◌++◌, length, take, Some, ap, length-append, arith}
use Rattle.std.proofs.Common.{lit≤}
use Rattle.std.specs.Prelude.{codes, decimal}
use Rattle.std.specs.List.{list_all}
use Rattle.std.proofs.lemmas.List.{length-take-le}
use Rattle.std.proofs.lemmas.Bool.{and_parts, ltb-true}
use Rattle.trees.specs.Texts.{edges_text, numbers_text}
use Rattle.tree_text.specs.Grammar.{is_small}
use Rattle.tree_text.specs.declared.stage.Word.{Word}
use Rattle.tree_text.specs.declared.stage.Word.TheVariants.{Edges, Colours, Marks}
use Rattle.tree_text.specs.declared.stage.Role.{Role}
use Rattle.tree_text.specs.declared.stage.Role.TheVariants.{FirstEnd, SecondEnd, Degree, Colour, Mark}
use Rattle.tree_text.specs.declared.stage.Stage.{Stage}
use Rattle.tree_text.specs.declared.stage.Stage.TheVariants.{Inside, Start, Number, MoreEdges, MoreColours, FirstMark, NoMarks}
use Rattle.tree_text.specs.declared.parts.Parts.{Parts}
use Rattle.tree_text.specs.declared.reader.Reader.{Reader}
use Rattle.tree_text.specs.Steps.{letters_of, first_reader, Has, HasRoom, HasWord, IsAt}
use Rattle.tree_text.proofs.Written.{edges_so_far, colours_so_far, marks_so_far, before_word, before_number, written, short_decimal}
use Rattle.tree_text.proofs.Runs.{run}
use Rattle.tree_text.proofs.Readings.{read_so}

edges_short : (es : List (ℕ × ℕ)) (ds : List ℕ) → list_all (λ e. is_small e.0 && is_small e.1) es ≡ true → list_all is_small ds ≡ true
    → length (edges_text es ds) ≤ 9 * length es
edges_short [] ds ends sizes = lit≤ tt
edges_short (e ∷ es) [] ends sizes = omega arith
edges_short (e ∷ es) (a ∷ ds) ends sizes =
    let x = and_parts _ _ ends in
    let y = and_parts _ _ x.0 in
    let z = and_parts _ _ sizes in
    one (decimal e.0) (decimal e.1) (decimal a) (edges_text es ds) (length es) (short_decimal e.0 (ltb-true e.0 100 y.0)) (short_decimal e.1 (ltb-true e.1 100 y.1))
    (short_decimal a (ltb-true a 100 z.0)) (edges_short es ds x.1 z.1)
  where
    one : (u v n t : List ℕ) (k : ℕ) → length u ≤ 2 → length v ≤ 2 → length n ≤ 2 → length t ≤ 9 * k
        → length (codes " " ++ u ++ codes "-" ++ v ++ codes ":" ++ n ++ t) ≤ 9 * suc k
    one u v n t k hu hv hn ht = simp length-append (omega arith)

numbers_short : (ns : List ℕ) → list_all is_small ns ≡ true → length (numbers_text ns) ≤ 3 * length ns
numbers_short [] all = lit≤ tt
numbers_short (n ∷ ns) all =
    let x = and_parts _ _ all in
    one (decimal n) (numbers_text ns) (length ns) (short_decimal n (ltb-true n 100 x.0)) (numbers_short ns x.1)
  where
    one : (n t : List ℕ) (k : ℕ) → length n ≤ 2 → length t ≤ 3 * k → length (codes " " ++ n ++ t) ≤ 3 * suc k
    one n t k hn ht = simp length-append (omega arith)

-- ---- what has been read

record Short (p : Parts) : Type 0 where
  pub edges : length (edges_so_far p) ≤ 95
  pub colours : length (colours_so_far p) ≤ 136
  pub marks : length (marks_so_far p) ≤ 178

short_parts : {a b c d e : ℕ} (p : Parts) → b ≤ 10 → d ≤ 11 → e ≤ 12 → Has a b c d e p → Short p
short_parts p hb hd he h =
    let x : length (edges_text p.edges p.degrees) ≤ 90 =
    (let y = edges_short p.edges p.degrees h.small.ends h.small.degrees in let z = h.edges_most in omega arith)
    in
    let c : length (numbers_text p.colours) ≤ 33 = (let y = numbers_short p.colours h.small.colours in let z = h.colours_most in omega arith) in
    let m : length (numbers_text p.marks) ≤ 36 = (let y = numbers_short p.marks h.small.marks in let z = h.marks_most in omega arith) in
    record {
      edges = one (edges_text p.edges p.degrees) x;
      colours = two (edges_text p.edges p.degrees) (numbers_text p.colours) x c;
      marks = three (edges_text p.edges p.degrees) (numbers_text p.colours) (numbers_text p.marks) x c m;
    }
  where
    one : (x : List ℕ) → length x ≤ 90 → length (codes "edges" ++ x) ≤ 95
    one x hx = simp length-append (omega arith)

    two : (x c : List ℕ) → length x ≤ 90 → length c ≤ 33 → length (codes "edges" ++ x ++ codes " colours" ++ c) ≤ 136
    two x c hx hc = simp length-append (omega arith)

    three : (x c m : List ℕ) → length x ≤ 90 → length c ≤ 33 → length m ≤ 36 → length (codes "edges" ++ x ++ codes " colours" ++ c ++ codes " marks" ++ m) ≤ 178
    three x c m hx hc hm = simp length-append (omega arith)

before_short : (p : Parts) (role : Role) → HasRoom p role → length (before_number p role) ≤ 179
before_short p FirstEnd room = one (edges_so_far p) (short_parts p (lit≤ tt) (lit≤ tt) (lit≤ tt) room).edges
  where
    one : (t : List ℕ) → length t ≤ 95 → length (t ++ codes " ") ≤ 179
    one t h = simp length-append (omega arith)
before_short p (SecondEnd u) room =
    one (edges_so_far p) (decimal u) (short_parts p (lit≤ tt) (lit≤ tt) (lit≤ tt) room.1).edges (short_decimal u room.0)
  where
    one : (t u : List ℕ) → length t ≤ 95 → length u ≤ 2 → length (t ++ codes " " ++ u ++ codes "-") ≤ 179
    one t u h k = simp length-append (omega arith)
before_short p (Degree u v) room =
    one (edges_so_far p) (decimal u) (decimal v) (short_parts p (lit≤ tt) (lit≤ tt) (lit≤ tt) room.2).edges (short_decimal u room.0) (short_decimal v room.1)
  where
    one : (t u v : List ℕ) → length t ≤ 95 → length u ≤ 2 → length v ≤ 2 → length (t ++ codes " " ++ u ++ codes "-" ++ v ++ codes ":") ≤ 179
    one t u v h k l = simp length-append (omega arith)
before_short p Colour room = one (colours_so_far p) (short_parts p (lit≤ tt) (lit≤ tt) (lit≤ tt) room).colours
  where
    one : (t : List ℕ) → length t ≤ 136 → length (t ++ codes " ") ≤ 179
    one t h = simp length-append (omega arith)
before_short p Mark room = one (marks_so_far p) (short_parts p (lit≤ tt) (lit≤ tt) (lit≤ tt) room).marks
  where
    one : (t : List ℕ) → length t ≤ 178 → length (t ++ codes " ") ≤ 179
    one t h = simp length-append (omega arith)

letters_short : (word : Word) → length (letters_of word) ≤ 8
letters_short Edges = lit≤ tt
letters_short Colours = lit≤ tt
letters_short Marks = lit≤ tt

word_short : (p : Parts) (word : Word) → HasWord p word → length (before_word p word) ≤ 137
word_short p Edges has = lit≤ tt
word_short p Colours has = one (edges_so_far p) (short_parts p (lit≤ tt) (lit≤ tt) (lit≤ tt) has).edges
  where
    one : (t : List ℕ) → length t ≤ 95 → length (t ++ codes " ") ≤ 137
    one t h = simp length-append (omega arith)
word_short p Marks has = one (colours_so_far p) (short_parts p (lit≤ tt) (lit≤ tt) (lit≤ tt) has).colours
  where
    one : (t : List ℕ) → length t ≤ 136 → length (t ++ codes " ") ≤ 137
    one t h = simp length-append (omega arith)

written_short : (p : Parts) (stage : Stage) → IsAt p stage → length (written p stage) ≤ 200
written_short p (Inside word count) here =
    one (before_word p word) (take count (letters_of word)) (word_short p word here.1)
    (let long = length-take-le count (letters_of word) (let w = here.0 in omega arith) in let l = letters_short word in let w = here.0 in omega arith)
  where
    one : (t u : List ℕ) → length t ≤ 137 → length u ≤ 8 → length (t ++ u) ≤ 200
    one t u h k = simp length-append (omega arith)
written_short p (Start role) here = let b = before_short p role here in omega arith
written_short p (Number role n) here = one (before_number p role) (decimal n) (before_short p role here.1) (short_decimal n here.0)
  where
    one : (t u : List ℕ) → length t ≤ 179 → length u ≤ 2 → length (t ++ u) ≤ 200
    one t u h k = simp length-append (omega arith)
written_short p MoreEdges here = one (edges_so_far p) (short_parts p (lit≤ tt) (lit≤ tt) (lit≤ tt) here).edges
  where
    one : (t : List ℕ) → length t ≤ 95 → length (t ++ codes " ") ≤ 200
    one t h = simp length-append (omega arith)
written_short p MoreColours here = one (colours_so_far p) (short_parts p (lit≤ tt) (lit≤ tt) (lit≤ tt) here).colours
  where
    one : (t : List ℕ) → length t ≤ 136 → length (t ++ codes " ") ≤ 200
    one t h = simp length-append (omega arith)
written_short p FirstMark here = one (colours_so_far p) (short_parts p (lit≤ tt) (lit≤ tt) (lit≤ tt) here).colours
  where
    one : (t : List ℕ) → length t ≤ 136 → length (t ++ codes " marks" ++ codes " ") ≤ 200
    one t h = simp length-append (omega arith)
written_short p NoMarks here = one (colours_so_far p) (short_parts p (lit≤ tt) (lit≤ tt) (lit≤ tt) here).colours
  where
    one : (t : List ℕ) → length t ≤ 136 → length (t ++ codes " marks" ++ codes " " ++ codes "-") ≤ 200
    one t h = simp length-append (omega arith)

-- what can be read has at most 200 bytes
pub read_short : (text : List ℕ) (r : Reader) → run first_reader text ≡ Some r → length text ≤ 200
read_short text r h = let s = read_so text r h in let w = written_short r.parts r.stage s.reading in let e = ap length s.is in omega arith
