-- What a text is, if it is read to its end, and if it is not.
use Rattle.std.proofs.Common.{◌≡◌, ℕ, ◌+◌, ◌<◌, ◌≤◌, ◌⊎◌, List, [], ◌∷◌, ◌++◌, length, take, drop, get_or, Option, Some, None, refl, sym, ap, ◌∙◌, subst, inl, inr, append_assoc, arith}
use Rattle.std.proofs.Common.{lit<, lit≤}
use Rattle.std.specs.Prelude.{codes, decimal}
use Rattle.std.specs.Option.{option_and_then}
use Rattle.std.proofs.lemmas.List.{append-nil, nil_from_length, take_more, take_all, take-take, take-append-drop}
use Rattle.std.proofs.lemmas.Bool.{cases_lt}
use Rattle.trees.specs.Decorated.{DecoratedTree}
use Rattle.trees.specs.Texts.{numbers_text, marks_text, tree_text}
use Rattle.tree_text.specs.Grammar.{HasText, IsText, BeginsText}
use Rattle.tree_text.specs.declared.stage.Role.TheVariants.{FirstEnd, SecondEnd, Degree, Colour, Mark}
use Rattle.tree_text.specs.declared.stage.Stage.{Stage}
use Rattle.tree_text.specs.declared.stage.Stage.TheVariants.{Inside, Start, Number, MoreEdges, MoreColours, FirstMark, NoMarks}
use Rattle.tree_text.specs.declared.parts.Parts.{Parts}
use Rattle.tree_text.specs.declared.reader.Reader.{Reader}
use Rattle.tree_text.specs.Steps.{with_mark, after, first_reader, finished, finished_at, Has, IsAt, IsReading, parts_view, IsTextOfParts, IsRefusedAt}
use Rattle.tree_text.proofs.Written.{colours_so_far, marks_so_far, written, numbers_text-push, marks_text-some}
use Rattle.tree_text.proofs.Taken.{took, has_mark}
use Rattle.tree_text.proofs.Runs.{run, run-append, parts_after, parts_of, text_read}
use Rattle.tree_text.proofs.Endings.{ends}

-- ---- what has been read

-- what has been read is what stands in the parts and the stage
pub record HasRead (text : List ℕ) (r : Reader) : Type 0 where
  pub is : written r.parts r.stage ≡ text
  pub reading : IsReading r

pub first_read : HasRead [] first_reader
first_read = record {
  is = refl;
  reading = (
    lit< tt,
    record {
      edges_least = lit≤ tt;
      edges_most = lit≤ tt;
      degrees = refl;
      colours_least = lit≤ tt;
      colours_most = lit≤ tt;
      marks_most = lit≤ tt;
      small = record { ends = refl; degrees = refl; colours = refl; marks = refl };
    },
  );
}

run_reads : (r s : Reader) (text bytes : List ℕ) → HasRead text r → run r bytes ≡ Some s → HasRead (text ++ bytes) s
run_reads r s text [] h e = subst (λ (x : Reader). HasRead (text ++ []) x) (some_same r s e) (record { is = h.is ∙ sym (append-nil text); reading = h.reading })
  where
    some_same : (x y : Reader) → Some x ≡ Some y → x ≡ y
    some_same x y e = cc
run_reads r s text (b ∷ bs) h e = on (λ next has rest. run_reads next s (text ++ b ∷ []) bs has rest) (after r b) refl e
  where
    on : ((next : Reader) → HasRead (text ++ b ∷ []) next → run next bs ≡ Some s → HasRead (text ++ b ∷ [] ++ bs) s)
        → (o : Option Reader) → after r b ≡ o → option_and_then (λ s. run s bs) o ≡ Some s → HasRead (text ++ b ∷ bs) s
    on goes None was rest = absurd cc
    on goes (Some next) was rest =
        let t = took r next b h.reading was in
        subst (λ (t : List ℕ). HasRead t s) (append_assoc text (b ∷ []) bs)
        (goes next (record { is = t.text ∙ ap (λ (x : List ℕ). x ++ b ∷ []) h.is; reading = t.here }) rest)

pub read_so : (text : List ℕ) (r : Reader) → run first_reader text ≡ Some r → HasRead text r
read_so text r h = run_reads first_reader r [] text first_read h

-- ---- parts

text_of_parts : (p : Parts) (k : ℕ) → k ≤ 12 → Has 1 10 2 11 k p → HasText (parts_view p)
text_of_parts p k few h = record {
  least_edges = h.edges_least;
  most_edges = h.edges_most;
  degrees = h.degrees;
  least_colours = h.colours_least;
  most_colours = h.colours_most;
  most_marks = (let m = h.marks_most in omega arith);
  vertices = refl;
  small_ends = h.small.ends;
  small_degrees = h.small.degrees;
  small_colours = h.small.colours;
  small_marks = h.small.marks;
}

finished_parts : (p q : Parts) (stage : Stage) (text : List ℕ) → IsAt p stage → written p stage ≡ text → finished_at p stage ≡ Some q
    → IsTextOfParts text q
finished_parts p q (Number Mark n) text here w h =
    subst (λ (x : Parts). IsTextOfParts text x) (some_same (with_mark p n) q h) (record {
      has = text_of_parts (with_mark p n) 12 (lit≤ tt) (has_mark p n 12 here.0 (let m = here.1.marks_most in omega arith) here.1);
      is = sym w ∙ append_assoc (marks_so_far p) (codes " ") (decimal n) ∙ append_assoc (colours_so_far p ++ codes " marks") (numbers_text p.marks) (codes " " ++ decimal n)
          ∙ ap (λ (t : List ℕ). colours_so_far p ++ codes " marks" ++ t) (sym (numbers_text-push p.marks n) ∙ sym (marks_text-some p.marks n));
    })
  where
    some_same : (x y : Parts) → Some x ≡ Some y → x ≡ y
    some_same x y e = cc
finished_parts p q NoMarks text here w h =
    subst (λ (x : Parts). IsTextOfParts text x) (some_same p q h)
    (record { has = text_of_parts p 0 (lit≤ tt) here; is = sym w ∙ no_marks p.marks (colours_so_far p ++ codes " marks") (nil_from_length p.marks (let m = here.marks_most in omega arith)) })
  where
    some_same : (x y : Parts) → Some x ≡ Some y → x ≡ y
    some_same x y e = cc

    no_marks : (ms t : List ℕ) → ms ≡ [] → t ++ codes " " ++ codes "-" ≡ t ++ marks_text ms
    no_marks [] t e = simp append_assoc
    no_marks (v ∷ ms) t e = absurd cc
finished_parts p q (Inside word count) text here w h = absurd cc
finished_parts p q (Start role) text here w h = absurd cc
finished_parts p q (Number FirstEnd n) text here w h = absurd cc
finished_parts p q (Number (SecondEnd u) n) text here w h = absurd cc
finished_parts p q (Number (Degree u v) n) text here w h = absurd cc
finished_parts p q (Number Colour n) text here w h = absurd cc
finished_parts p q MoreEdges text here w h = absurd cc
finished_parts p q MoreColours text here w h = absurd cc
finished_parts p q FirstMark text here w h = absurd cc

-- a text that is read whole is the text of the parts
pub whole_read : (text : List ℕ) (r : Reader) (p : Parts) → run first_reader text ≡ Some r → finished r ≡ Some p → IsTextOfParts text p
whole_read text r p h f = let s = read_so text r h in finished_parts r.parts p r.stage text s.reading s.is f

-- the parts after a run that ends
parts_read : (text : List ℕ) (p : Parts) → parts_after first_reader text ≡ Some p → IsTextOfParts text p
parts_read text p h = on (run first_reader text) refl h
  where
    on : (o : Option Reader) → run first_reader text ≡ o → option_and_then finished o ≡ Some p → IsTextOfParts text p
    on None was e = absurd cc
    on (Some r) was e = whole_read text r p was e

-- ---- prefixes

-- what has been read is a prefix of a text of the grammar
pub read_begins : (text : List ℕ) (r : Reader) → run first_reader text ≡ Some r → BeginsText text
read_begins text r h =
    let s = read_so text r h in
    let e = ends r.parts r.stage s.reading in
    let whole : parts_after first_reader (text ++ e.tail) ≡ Some e.parts =
    ap (λ (o : Option Reader). option_and_then finished o) (run-append first_reader text e.tail ∙ ap (λ (o : Option Reader). option_and_then (λ s. run s e.tail) o) h) ∙ e.are
    in
    let p = parts_read (text ++ e.tail) e.parts whole in
    record { rest = e.tail; whole = record { parts = parts_view e.parts; has = p.has; is = p.is } }

-- a text of the grammar is read to its end
whole_is_read : (text : List ℕ) → IsText text → run first_reader text ≡ None → ⊥
whole_is_read text t none =
    let r = text_read t.parts t.has in
    clash _ (sym (ap (λ (o : Option Reader). option_and_then finished o) (ap (run first_reader) (sym t.is) ∙ none)) ∙ r)
  where
    clash : (p : Parts) → None ≡ Some p → ⊥
    clash p e = cc

-- after a byte that no text goes on with, nothing is read
run_stops : (front rest : List ℕ) (byte : ℕ) (r : Reader) → run first_reader front ≡ Some r → after r byte ≡ None
    → run first_reader (front ++ byte ∷ rest) ≡ None
run_stops front rest byte r h stop =
    run-append first_reader front (byte ∷ rest) ∙ ap (λ (o : Option Reader). option_and_then (λ s. run s (byte ∷ rest)) o) h
    ∙ ap (λ (o : Option Reader). option_and_then (λ s. run s rest) o) stop

-- a longer prefix has the byte
longer_prefix : (text : List ℕ) (i k : ℕ) → i < k → k ≤ length text
    → take k text ≡ take i text ++ get_or text i 0 ∷ drop (i + 1) (take k text)
longer_prefix text i k less within =
    sym (take-append-drop (i + 1) (take k text))
    ∙ ap (λ (t : List ℕ). t ++ drop (i + 1) (take k text)) (take-take (i + 1) k text (omega arith) ∙ take_more text i 0 (omega arith))
    ∙ append_assoc (take i text) (get_or text i 0 ∷ []) (drop (i + 1) (take k text))

-- a text is refused at its first byte that cannot be read
pub stopped : (text : List ℕ) (i : ℕ) (r : Reader) → i < length text → run first_reader (take i text) ≡ Some r → after r (get_or text i 0) ≡ None
    → IsRefusedAt text i
stopped text i r within h stop = record {
  none = λ t. longer (length text) within (omega arith) text t [] (append-nil _ ∙ take_all (length text) text (omega arith));
  longest = record {
    within = omega arith;
    begins = read_begins (take i text) r h;
    longest = λ k most b. not_longer k most b (cases_lt i k);
  };
}
  where
    longer : (k : ℕ) → i < k → k ≤ length text → (whole : List ℕ) → IsText whole → (rest : List ℕ) → take k text ++ rest ≡ whole → ⊥
    longer k less most whole t rest e =
        let front = longer_prefix text i k less most in
        let split : whole ≡ take i text ++ get_or text i 0 ∷ (drop (i + 1) (take k text) ++ rest) =
        sym e ∙ ap (λ (x : List ℕ). x ++ rest) front ∙ append_assoc (take i text) (get_or text i 0 ∷ drop (i + 1) (take k text)) rest
        in
        whole_is_read whole t (ap (run first_reader) split ∙ run_stops (take i text) (drop (i + 1) (take k text) ++ rest) (get_or text i 0) r h stop)

    not_longer : (k : ℕ) → k ≤ length text → BeginsText (take k text) → (i < k) ⊎ (k ≤ i) → k ≤ i
    not_longer k most b (inl less) = absurd (longer k less most (take k text ++ b.rest) b.whole b.rest refl)
    not_longer k most b (inr at_most) = at_most

-- a text is refused at its end
pub unfinished : (text : List ℕ) (r : Reader) → run first_reader text ≡ Some r → finished r ≡ None → IsRefusedAt text (length text)
unfinished text r h open_end = record {
  none = λ t. clash _ (sym (ap (λ (o : Option Reader). option_and_then finished o) (ap (run first_reader) (sym t.is) ∙ h) ∙ open_end) ∙ text_read t.parts t.has);
  longest = record {
    within = omega arith;
    begins = subst BeginsText (sym (take_all (length text) text (omega arith))) (read_begins text r h);
    longest = λ k most b. most;
  };
}
  where
    clash : (p : Parts) → None ≡ Some p → ⊥
    clash p e = cc

-- one byte more
pub read_more : (text : List ℕ) (i : ℕ) (r s : Reader) → i < length text → run first_reader (take i text) ≡ Some r
    → after r (get_or text i 0) ≡ Some s → run first_reader (take (i + 1) text) ≡ Some s
read_more text i r s within h more =
    ap (run first_reader) (take_more text i 0 within) ∙ run-append first_reader (take i text) (get_or text i 0 ∷ [])
    ∙ ap (λ (o : Option Reader). option_and_then (λ s. run s (get_or text i 0 ∷ [])) o) h ∙ ap (λ (o : Option Reader). option_and_then (λ s. run s []) o) more

-- a text of parts gives back these parts
pub parts_again : (text : List ℕ) (p : Parts) (g : DecoratedTree) → IsTextOfParts text p → HasText g → text ≡ tree_text g → parts_view p ≡ g
parts_again text p g are has is =
    let one = text_read (parts_view p) are.has in
    let two = text_read g has in
    same_view g (same _ _ (sym one ∙ ap (parts_after first_reader) (sym are.is ∙ is) ∙ two)) has.vertices
  where
    same : (x y : Parts) → Some x ≡ Some y → x ≡ y
    same x y e = cc

    same_view : (g : DecoratedTree) → p ≡ parts_of g.edges g.degrees g.colours g.marks → g.vertices ≡ length g.colours → parts_view p ≡ g
    same_view g e v = ap parts_view e ∙ ap (λ (n : ℕ). record { vertices = n; edges = g.edges; colours = g.colours; degrees = g.degrees; marks = g.marks }) (sym v)
