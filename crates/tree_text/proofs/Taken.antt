-- Each step reads one byte more.
use Rattle.std.proofs.Common.{◌≡◌, ℕ, ◌+◌, ◌-◌, ◌<◌, ◌≤◌, ◌⊎◌, Bool, true, false, ◌&&◌, cond, List, [], ◌∷◌, ◌++◌, length, take, get_or, Option, Some, None, refl, sym, ap, ap₂, ◌∙◌, subst, inl, inr, append_assoc, arith}
use Rattle.std.specs.Prelude.{codes, decimal, option_map, nat_lt, nat_le, ◌==◌, if◌then◌else◌}
use Rattle.std.proofs.Common.{lit<}
use Rattle.std.specs.List.{list_all}
use Rattle.std.proofs.lemmas.List.{append-nil, length_push, take_more, take_all, nil_from_length}
use Rattle.std.proofs.lemmas.Fmt.{decimal_digit}
use Rattle.std.proofs.lemmas.Bool.{and_parts, and_from, ltb-true, leb-true, eqb-true, eqb-false, lt-ltb, cond-true}
use Rattle.trees.specs.Texts.{edges_text, numbers_text}
use Rattle.tree_text.specs.Grammar.{is_small}
use Rattle.tree_text.specs.declared.stage.Word.{Word}
use Rattle.tree_text.specs.declared.stage.Word.TheVariants.{Edges, Colours, Marks}
use Rattle.tree_text.specs.declared.stage.Role.{Role}
use Rattle.tree_text.specs.declared.stage.Role.TheVariants.{FirstEnd, SecondEnd, Degree, Colour, Mark}
use Rattle.tree_text.specs.declared.stage.Stage.{Stage}
use Rattle.tree_text.specs.declared.stage.Stage.TheVariants.{Inside, Start, Number, MoreEdges, MoreColours, FirstMark, NoMarks}
use Rattle.tree_text.specs.declared.parts.Parts.{Parts}
use Rattle.tree_text.specs.declared.reader.Reader.{Reader}
use Rattle.tree_text.specs.Steps.{letters_of, after_word, inside, is_digit, after_digit, with_edge, with_colour, with_mark, if_is, after_number, after_sign, with_parts, after, Has, HasRoom, HasWord, IsAt}
use Rattle.tree_text.proofs.Written.{two_digits, edge_text, edges_text-push, numbers_text-push, edges_so_far, colours_so_far, before_word, before_number, written}

-- ---- tests

pub chosen : {X : Type 0} (b : Bool) (x y z : X) → cond b x y ≡ z → ((b ≡ true) × (x ≡ z)) ⊎ ((b ≡ false) × (y ≡ z))
chosen true x y z h = inl (refl, h)
chosen false x y z h = inr (refl, h)

-- a value that is there only if a test holds
pub if_so : {X : Type 0} (b : Bool) (x y : X) → cond b (Some x) None ≡ Some y → (b ≡ true) × (x ≡ y)
if_so true x y h = (refl, cc)
if_so false x y h = absurd cc

mapped : {X Y : Type 0} (f : X → Y) (o : Option X) (y : Y) → option_map f o ≡ Some y → (x : X) × (o ≡ Some x) × (f x ≡ y)
mapped f None y h = absurd cc
mapped f (Some x) y h = (x, refl, cc)

small_push : (ns : List ℕ) (n : ℕ) → list_all is_small ns ≡ true → n < 100 → list_all is_small (ns ++ n ∷ []) ≡ true
small_push [] n all h = and_from _ _ (lt-ltb n 100 h) refl
small_push (m ∷ ns) n all h = let a = and_parts _ _ all in and_from _ _ a.0 (small_push ns n a.1 h)

ends_push : (es : List (ℕ × ℕ)) (u v : ℕ) → list_all (λ e. is_small e.0 && is_small e.1) es ≡ true → u < 100 → v < 100
    → list_all (λ e. is_small e.0 && is_small e.1) (es ++ (u, v) ∷ []) ≡ true
ends_push [] u v all h k = and_from _ _ (and_from _ _ (lt-ltb u 100 h) (lt-ltb v 100 k)) refl
ends_push (e ∷ es) u v all h k = let a = and_parts _ _ all in and_from _ _ a.0 (ends_push es u v a.1 h k)

-- ---- bounds on the counts

has_within : {a b c d e a' b' c' d' e' : ℕ} (p : Parts) → Has a b c d e p → a' ≤ length p.edges → length p.edges ≤ b'
    → c' ≤ length p.colours → length p.colours ≤ d' → length p.marks ≤ e' → Has a' b' c' d' e' p
has_within p h x y z w v = record {
  edges_least = x;
  edges_most = y;
  degrees = h.degrees;
  colours_least = z;
  colours_most = w;
  marks_most = v;
  small = h.small;
}

has_edge : (p : Parts) (u v a : ℕ) → u < 100 → v < 100 → a < 100 → Has 0 9 0 0 0 p → Has 1 10 0 0 0 (with_edge p (u, v) a)
has_edge p u v a hu hv ha h =
    let e = length_push p.edges (u, v) in
    let d = length_push p.degrees a in
    record {
      edges_least = omega arith;
      edges_most = omega arith;
      degrees = omega arith;
      colours_least = h.colours_least;
      colours_most = h.colours_most;
      marks_most = h.marks_most;
      small = record {
        ends = ends_push p.edges u v h.small.ends hu hv;
        degrees = small_push p.degrees a h.small.degrees ha;
        colours = h.small.colours;
        marks = h.small.marks;
      };
    }

has_colour : (p : Parts) (c : ℕ) → c < 100 → Has 1 10 0 10 0 p → Has 1 10 1 11 0 (with_colour p c)
has_colour p c hc h =
    let l = length_push p.colours c in
    record {
      edges_least = h.edges_least;
      edges_most = h.edges_most;
      degrees = h.degrees;
      colours_least = omega arith;
      colours_most = omega arith;
      marks_most = h.marks_most;
      small = record {
        ends = h.small.ends;
        degrees = h.small.degrees;
        colours = small_push p.colours c h.small.colours hc;
        marks = h.small.marks;
      };
    }

pub has_mark : (p : Parts) (v k : ℕ) → v < 100 → length p.marks < k → Has 1 10 2 11 11 p → Has 1 10 2 11 k (with_mark p v)
has_mark p v k hv room h =
    let l = length_push p.marks v in
    record {
      edges_least = h.edges_least;
      edges_most = h.edges_most;
      degrees = h.degrees;
      colours_least = h.colours_least;
      colours_most = h.colours_most;
      marks_most = omega arith;
      small = record {
        ends = h.small.ends;
        degrees = h.small.degrees;
        colours = h.small.colours;
        marks = small_push p.marks v h.small.marks hv;
      };
    }

-- ---- one byte more

-- a step from a stage of the parts p to one of the parts q reads the byte
pub record Took (p : Parts) (stage : Stage) (byte : ℕ) (q : Parts) (next : Stage) : Type 0 where
  pub text : written q next ≡ written p stage ++ byte ∷ []
  pub here : IsAt q next

abbrev TookTo : Parts → Stage → ℕ → Reader → Type 0
TookTo p stage byte r = Took p stage byte r.parts r.stage

no_marks : (p : Parts) → length p.marks ≤ 0 → (t : List ℕ) → t ++ numbers_text p.marks ≡ t
no_marks p h t = ap (λ (ms : List ℕ). t ++ numbers_text ms) (nil_from_length p.marks (omega arith)) ∙ append-nil t

-- the start of a number
first_digit : (p : Parts) (stage : Stage) (role : Role) (d : ℕ) → d ≤ 9 → written p stage ≡ before_number p role → HasRoom p role
    → Took p stage (48 + d) p (Number role d)
first_digit p stage role d small same room = record {
  text = ap₂ (λ (s t : List ℕ). s ++ t) (sym same) (decimal_digit d (omega arith));
  here = (omega arith, room);
}

took_digit : (p : Parts) (stage next : Stage) (d : ℕ) → d ≤ 9 → IsAt p stage → after_digit p stage d ≡ Some next
    → Took p stage (48 + d) p next
took_digit p (Inside word count) next d small here h = absurd cc
took_digit p (Start role) next d small here h =
    subst (λ (s : Stage). Took p (Start role) (48 + d) p s) (if_so true _ _ h).1 (first_digit p (Start role) role d small refl here)
took_digit p (Number role n) next d small here h =
    let s = if_so (nat_lt 0 n && nat_lt n 10) _ _ h in
    let b = and_parts _ _ s.0 in
    let some = ltb-true 0 n b.0 in
    let below = ltb-true n 10 b.1 in
    subst (λ (s : Stage). Took p (Number role n) (48 + d) p s) s.1 (record {
      text = ap (λ (t : List ℕ). before_number p role ++ t) (two_digits n d some below small) ∙ sym (append_assoc (before_number p role) (decimal n) _);
      here = (omega arith, here.1);
    })
took_digit p MoreEdges next d small here h =
    let s = if_so (nat_lt (length p.edges) 10) _ _ h in
    let room = ltb-true (length p.edges) 10 s.0 in
    subst (λ (s : Stage). Took p MoreEdges (48 + d) p s) s.1
    (first_digit p MoreEdges FirstEnd d small refl (has_within p here (omega arith) (omega arith) here.colours_least here.colours_most here.marks_most))
took_digit p MoreColours next d small here h =
    let s = if_so (nat_lt (length p.colours) 11) _ _ h in
    let room = ltb-true (length p.colours) 11 s.0 in
    subst (λ (s : Stage). Took p MoreColours (48 + d) p s) s.1
    (first_digit p MoreColours Colour d small refl (has_within p here here.edges_least here.edges_most (omega arith) (omega arith) here.marks_most))
took_digit p FirstMark next d small here h =
    subst (λ (s : Stage). Took p FirstMark (48 + d) p s) (if_so true _ _ h).1
    (first_digit p FirstMark Mark d small (ap (λ (t : List ℕ). t ++ codes " ") (sym (no_marks p here.marks_most (colours_so_far p ++ codes " marks"))))
    (has_within p here here.edges_least here.edges_most here.colours_least here.colours_most (omega arith)))
took_digit p NoMarks next d small here h = absurd cc

-- one byte that is asked for
asked : (p q : Parts) (stage next : Stage) (byte wanted : ℕ) (r : Reader) → if_is byte wanted q next ≡ Some r
    → written q next ≡ written p stage ++ wanted ∷ [] → IsAt q next → TookTo p stage byte r
asked p q stage next byte wanted r h text here =
    let s = if_so (byte == wanted) _ _ h in
    subst (λ (r : Reader). TookTo p stage byte r) s.1
    (record { text = text ∙ ap (λ (b : ℕ). written p stage ++ b ∷ []) (sym (eqb-true byte wanted s.0)); here = here })

edge_read : (t : List ℕ) (u v a : List ℕ) → t ++ (codes " " ++ u ++ codes "-" ++ v ++ codes ":" ++ a) ++ codes " "
    ≡ t ++ codes " " ++ u ++ codes "-" ++ v ++ codes ":" ++ a ++ 32 ∷ []
edge_read t u v a = simp append_assoc

took_number : (p : Parts) (role : Role) (n byte : ℕ) (r : Reader) → n < 100 → HasRoom p role → after_number p role n byte ≡ Some r
    → TookTo p (Number role n) byte r
unfolding edge_text
took_number p FirstEnd n byte r small room h = asked p p (Number FirstEnd n) (Start (SecondEnd n)) byte 45 r h refl (small, room)
took_number p (SecondEnd u) n byte r small room h =
    asked p p (Number (SecondEnd u) n) (Start (Degree u n)) byte 58 r h refl (room.0, small, room.1)
took_number p (Degree u v) n byte r small room h =
    asked p (with_edge p (u, v) n) (Number (Degree u v) n) MoreEdges byte 32 r h
    (ap (λ (t : List ℕ). codes "edges" ++ t ++ codes " ") (edges_text-push p.edges p.degrees (u, v) n room.2.degrees)
    ∙ ap (λ (t : List ℕ). t ++ codes " ") (sym (append_assoc (codes "edges") (edges_text p.edges p.degrees) _))
    ∙ edge_read (edges_so_far p) (decimal u) (decimal v) (decimal n))
    (has_edge p u v n room.0 room.1 small room.2)
took_number p Colour n byte r small room h =
    asked p (with_colour p n) (Number Colour n) MoreColours byte 32 r h
    (ap (λ (t : List ℕ). edges_so_far p ++ codes " colours" ++ t ++ codes " ") (numbers_text-push p.colours n)
    ∙ pushed (edges_so_far p ++ codes " colours") (numbers_text p.colours) (decimal n))
    (has_colour p n small room)
  where
    pushed : (s t n : List ℕ) → s ++ (t ++ (codes " " ++ n)) ++ codes " " ≡ s ++ t ++ codes " " ++ n ++ 32 ∷ []
    pushed s t n = simp append_assoc
took_number p Mark n byte r small room h =
    elim (chosen (nat_lt (length p.marks) 11) (if_is byte 32 (with_mark p n) (Start Mark)) None (Some r) h) [
      | inl few ↦
          let room_left = ltb-true (length p.marks) 11 few.0 in
          asked p (with_mark p n) (Number Mark n) (Start Mark) byte 32 r few.1
          (ap (λ (t : List ℕ). colours_so_far p ++ codes " marks" ++ t ++ codes " ") (numbers_text-push p.marks n)
          ∙ read (colours_so_far p ++ codes " marks") (numbers_text p.marks) (decimal n))
          (has_mark p n 11 small room_left room)
      | inr full ↦ absurd cc
    ]
  where
    read : (s t n : List ℕ) → s ++ (t ++ (codes " " ++ n)) ++ codes " " ≡ s ++ t ++ codes " " ++ n ++ 32 ∷ []
    read s t n = simp append_assoc

-- after the space of a word
word_read : (p : Parts) (word : Word) → HasWord p word → (written p (after_word word) ≡ before_word p word ++ letters_of word) × IsAt p (after_word word)
word_read p Edges has = (
  no_edges p.edges p.degrees (nil_from_length p.edges (omega arith)),
  has_within p has (omega arith) (omega arith) has.colours_least has.colours_most has.marks_most,
)
  where
    no_edges : (es : List (ℕ × ℕ)) (ds : List ℕ) → es ≡ [] → codes "edges" ++ edges_text es ds ++ codes " " ≡ codes "edges "
    no_edges [] ds e = refl
    no_edges (e ∷ es) ds e' = absurd cc
word_read p Colours has = (
  no_colours (edges_so_far p) p.colours (nil_from_length p.colours (omega arith)),
  has_within p has has.edges_least has.edges_most (omega arith) (omega arith) has.marks_most,
)
  where
    no_colours : (t cs : List ℕ) → cs ≡ [] → t ++ codes " colours" ++ numbers_text cs ++ codes " " ≡ t ++ codes " " ++ codes "colours "
    no_colours t [] e = simp (append_assoc, append-nil)
    no_colours t (c ∷ cs) e = absurd cc
word_read p Marks has = (regrouped (colours_so_far p), has)
  where
    regrouped : (t : List ℕ) → t ++ codes " marks" ++ codes " " ≡ t ++ codes " " ++ codes "marks "
    regrouped t = simp append_assoc

took_letter : (p : Parts) (word : Word) (count : ℕ) → count < length (letters_of word) → HasWord p word
    → (b : Bool) → (count + 1 == length (letters_of word)) ≡ b
    → Took p (Inside word count) (get_or (letters_of word) count 0) p (if b then after_word word else Inside word (count + 1))
took_letter p word count within has true last =
    let w = word_read p word has in
    let whole : take (count + 1) (letters_of word) ≡ letters_of word =
    take_all (count + 1) (letters_of word) (let e = eqb-true (count + 1) (length (letters_of word)) last in omega arith)
    in
    record {
      text = w.0 ∙ ap (λ (t : List ℕ). before_word p word ++ t) (sym whole ∙ take_more (letters_of word) count 0 within) ∙ sym (append_assoc (before_word p word) (take count (letters_of word)) _);
      here = w.1;
    }
took_letter p word count within has false more =
    let ne = eqb-false (count + 1) (length (letters_of word)) more in
    record {
      text = ap (λ (t : List ℕ). before_word p word ++ t) (take_more (letters_of word) count 0 within) ∙ sym (append_assoc (before_word p word) (take count (letters_of word)) _);
      here = (omega arith, has);
    }

took_sign : (p : Parts) (stage : Stage) (byte : ℕ) (r : Reader) → IsAt p stage → after_sign p stage byte ≡ Some r → TookTo p stage byte r
took_sign p (Inside word count) byte r here h =
    let t = took_letter p word count here.0 here.1 (count + 1 == length (letters_of word)) refl in
    asked p p (Inside word count) (inside word (count + 1)) byte (get_or (letters_of word) count 0) r h t.text t.here
took_sign p (Start role) byte r here h = absurd cc
took_sign p (Number role n) byte r here h = took_number p role n byte r here.0 here.1 h
took_sign p MoreEdges byte r here h =
    asked p p MoreEdges (Inside Colours 1) byte 99 r h refl (lit< tt, here)
took_sign p MoreColours byte r here h =
    let s = two_ways (nat_le 2 (length p.colours)) (byte == 109) (record { parts = p; stage = Inside Marks 1 }) r h in
    let enough = leb-true 2 (length p.colours) s in
    asked p p MoreColours (Inside Marks 1) byte 109 r (sym (cond-true _ _ None s) ∙ h) refl
    (lit< tt, has_within p here here.edges_least here.edges_most (omega arith) (omega arith) here.marks_most)
  where
    two_ways : (b c : Bool) (x y : Reader) → cond b (cond c (Some x) None) None ≡ Some y → b ≡ true
    two_ways true c x y h = refl
    two_ways false c x y h = absurd cc
took_sign p FirstMark byte r here h = asked p p FirstMark NoMarks byte 45 r h refl here
took_sign p NoMarks byte r here h = absurd cc

pub took : (r s : Reader) (byte : ℕ) → IsAt r.parts r.stage → after r byte ≡ Some s → TookTo r.parts r.stage byte s
unfolding after
took r s byte here h =
    elim (chosen (is_digit byte) (option_map (with_parts r.parts) (after_digit r.parts r.stage (byte - 48))) (after_sign r.parts r.stage byte) (Some s) h) [
      | inl digit ↦
          let b = and_parts _ _ digit.0 in
          let low = leb-true 48 byte b.0 in
          let high = leb-true byte 57 b.1 in
          let m = mapped (with_parts r.parts) (after_digit r.parts r.stage (byte - 48)) s digit.1 in
          let same : 48 + (byte - 48) ≡ byte = omega arith in
          subst (λ (s : Reader). TookTo r.parts r.stage byte s) m.2
          (subst (λ (b : ℕ). Took r.parts r.stage b r.parts m.0) same (took_digit r.parts r.stage m.0 (byte - 48) (omega arith) here m.1))
      | inr sign ↦ took_sign r.parts r.stage byte s here sign.1
    ]
