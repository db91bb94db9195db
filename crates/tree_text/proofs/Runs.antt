-- Each text of the grammar is read whole.
use Rattle.std.proofs.Common.{◌≡◌, ℕ, ◌+◌, ◌-◌, ◌*◌, ◌/◌, ◌%◌, ◌<◌, ◌≤◌, Bool, true, ◌&&◌, List, [], ◌∷◌, ◌++◌, length, Option, Some, None, refl, ap, ap₂, ◌∙◌, inl, inr, append_assoc, arith}
use Rattle.std.specs.Prelude.{codes, decimal, option_map, nat_lt, if◌then◌else◌}
use Rattle.std.specs.Option.{option_and_then}
use Rattle.std.specs.List.{list_all}
use Rattle.std.proofs.lemmas.List.{length_push}
use Rattle.std.proofs.lemmas.Fmt.{decimal_digit, decimal_step}
use Rattle.std.proofs.lemmas.Bool.{and_parts, and_from, ltb-true, lt-ltb, le-leb, cond-true, cases_lt}
use Rattle.trees.specs.Decorated.{DecoratedTree}
use Rattle.trees.specs.Texts.{edges_text, numbers_text, marks_text, tree_text}
use Rattle.tree_text.specs.Grammar.{is_small, HasText}
use Rattle.tree_text.specs.declared.stage.Word.TheVariants.{Colours, Marks}
use Rattle.tree_text.specs.declared.stage.Role.{Role}
use Rattle.tree_text.specs.declared.stage.Role.TheVariants.{FirstEnd, SecondEnd, Degree, Colour, Mark}
use Rattle.tree_text.specs.declared.stage.Stage.{Stage}
use Rattle.tree_text.specs.declared.stage.Stage.TheVariants.{Inside, Start, Number, MoreEdges, MoreColours, FirstMark}
use Rattle.tree_text.specs.declared.parts.Parts.{Parts}
use Rattle.tree_text.specs.declared.reader.Reader.{Reader}
use Rattle.tree_text.specs.Steps.{is_digit, after_digit, with_parts, after, first_reader, finished}

-- what is read after several bytes
abbrev pub run : Reader → List ℕ → Option Reader
run r [] = Some r
run r (b ∷ bs) = option_and_then (λ s. run s bs) (after r b)

-- the parts of a text that is read from here to its end
abbrev pub parts_after : Reader → List ℕ → Option Parts
parts_after r bs = option_and_then finished (run r bs)

pub run-append : (r : Reader) (xs ys : List ℕ) → run r (xs ++ ys) ≡ option_and_then (λ s. run s ys) (run r xs)
run-append r [] ys = refl
run-append r (x ∷ xs) ys = on (λ s. run-append s xs ys) (after r x)
  where
    on : ((s : Reader) → run s (xs ++ ys) ≡ option_and_then (λ s. run s ys) (run s xs)) → (o : Option Reader)
        → option_and_then (λ s. run s (xs ++ ys)) o ≡ option_and_then (λ s. run s ys) (option_and_then (λ s. run s xs) o)
    on h None = refl
    on h (Some s) = h s

-- what has been read
abbrev pub reading_at : Parts → Stage → Reader
reading_at p stage = record { parts = p; stage = stage }

abbrev pub parts_of : List (ℕ × ℕ) → List ℕ → List ℕ → List ℕ → Parts
parts_of es ds cs ms = record { edges = es; degrees = ds; colours = cs; marks = ms }

-- ---- numbers

is_digit-digit : (d : ℕ) → d ≤ 9 → is_digit (48 + d) ≡ true
is_digit-digit d h = and_from _ _ (le-leb 48 (48 + d) (omega arith)) (le-leb (48 + d) 57 (omega arith))

after-digit : (p : Parts) (stage next : Stage) (d : ℕ) → d ≤ 9 → after_digit p stage d ≡ Some next → after (reading_at p stage) (48 + d) ≡ Some (reading_at p next)
unfolding after
after-digit p stage next d small h =
    let same : 48 + d - 48 ≡ d = omega arith in
    cond-true (is_digit (48 + d)) _ _ (is_digit-digit d small)
    ∙ ap (λ (x : ℕ). option_map (with_parts p) (after_digit p stage x)) same
    ∙ ap (λ (o : Option Stage). option_map (with_parts p) o) h

digit_run : (p : Parts) (stage next : Stage) (d : ℕ) (rest : List ℕ) → d ≤ 9 → after_digit p stage d ≡ Some next
    → run (reading_at p stage) ((48 + d) ∷ rest) ≡ run (reading_at p next) rest
digit_run p stage next d rest small h = ap (λ (o : Option Reader). option_and_then (λ s. run s rest) o) (after-digit p stage next d small h)

-- where a number of a role can begin
abbrev pub Begins : Parts → Stage → Role → Type 0
Begins p stage role = (d : ℕ) → after_digit p stage d ≡ Some (Number role d)

pub number_run : (p : Parts) (stage : Stage) (role : Role) (n : ℕ) (rest : List ℕ) → Begins p stage role → n < 100
    → run (reading_at p stage) (decimal n ++ rest) ≡ run (reading_at p (Number role n)) rest
number_run p stage role n rest begins small = elim (cases_lt n 10) [ inl one ↦ single one | inr two ↦ double two ]
  where
    single : n < 10 → run (reading_at p stage) (decimal n ++ rest) ≡ run (reading_at p (Number role n)) rest
    single h = ap (λ (t : List ℕ). run (reading_at p stage) (t ++ rest)) (decimal_digit n h) ∙ digit_run p stage (Number role n) n rest (omega arith) (begins n)

    grows : (q r : ℕ) → 0 < q → q < 10 → after_digit p (Number role q) r ≡ Some (Number role (q * 10 + r))
    grows q r some less = cond-true (nat_lt 0 q && nat_lt q 10) _ _ (and_from _ _ (lt-ltb 0 q some) (lt-ltb q 10 less))

    double : 10 ≤ n → run (reading_at p stage) (decimal n ++ rest) ≡ run (reading_at p (Number role n)) rest
    double h =
        let q : n / 10 < 10 = omega arith in
        let s : 0 < n / 10 = omega arith in
        let r : n % 10 ≤ 9 = omega arith in
        let whole : n / 10 * 10 + n % 10 ≡ n = omega arith in
        ap (λ (t : List ℕ). run (reading_at p stage) (t ++ rest)) (decimal_step n h (omega arith) ∙ ap (λ (t : List ℕ). t ++ (48 + n % 10) ∷ []) (decimal_digit (n / 10) q))
        ∙ digit_run p stage (Number role (n / 10)) (n / 10) ((48 + n % 10) ∷ rest) (omega arith) (begins (n / 10))
        ∙ digit_run p (Number role (n / 10)) (Number role (n / 10 * 10 + n % 10)) (n % 10) rest r (grows (n / 10) (n % 10) s q)
        ∙ ap (λ (m : ℕ). run (reading_at p (Number role m)) rest) whole

-- ---- edges

-- an edge as it stands after its space, and what follows it
abbrev edge_then : ℕ × ℕ → ℕ → List ℕ → List ℕ
edge_then e a rest = decimal e.0 ++ 45 ∷ (decimal e.1 ++ 58 ∷ (decimal a ++ rest))

dash : (p : Parts) (u : ℕ) (t : List ℕ) → run (reading_at p (Number FirstEnd u)) (45 ∷ t) ≡ run (reading_at p (Start (SecondEnd u))) t
unfolding after
dash p u t = refl

colon : (p : Parts) (u v : ℕ) (t : List ℕ) → run (reading_at p (Number (SecondEnd u) v)) (58 ∷ t) ≡ run (reading_at p (Start (Degree u v))) t
unfolding after
colon p u v t = refl

edge_run : (p : Parts) (stage : Stage) (e : ℕ × ℕ) (a : ℕ) (rest : List ℕ) → Begins p stage FirstEnd → e.0 < 100 → e.1 < 100 → a < 100
    → run (reading_at p stage) (edge_then e a rest) ≡ run (reading_at p (Number (Degree e.0 e.1) a)) rest
edge_run p stage e a rest begins hu hv ha =
    number_run p stage FirstEnd e.0 (45 ∷ (decimal e.1 ++ 58 ∷ (decimal a ++ rest))) begins hu
    ∙ dash p e.0 (decimal e.1 ++ 58 ∷ (decimal a ++ rest))
    ∙ number_run p (Start (SecondEnd e.0)) (SecondEnd e.0) e.1 (58 ∷ (decimal a ++ rest)) (λ d. refl) hv
    ∙ colon p e.0 e.1 (decimal a ++ rest)
    ∙ number_run p (Start (Degree e.0 e.1)) (Degree e.0 e.1) a rest (λ d. refl) ha

edge_first : (e : ℕ × ℕ) (a : ℕ) (es : List (ℕ × ℕ)) (ds rest : List ℕ)
    → edges_text (e ∷ es) (a ∷ ds) ++ rest ≡ 32 ∷ edge_then e a (edges_text es ds ++ rest)
edge_first e a es ds rest = regroup (decimal e.0) (decimal e.1) (decimal a) (edges_text es ds)
  where
    regroup : (u v n t : List ℕ) → codes " " ++ u ++ codes "-" ++ v ++ codes ":" ++ n ++ t ++ rest ≡ 32 ∷ (u ++ 45 ∷ (v ++ 58 ∷ (n ++ (t ++ rest))))
    regroup u v n t = simp append_assoc

edges_run : (es : List (ℕ × ℕ)) (ds : List ℕ) (before : List (ℕ × ℕ)) (degrees : List ℕ) (e : ℕ × ℕ) (a : ℕ) (rest : List ℕ)
    → length ds ≡ length es → length before + (1 + length es) ≤ 10
    → list_all (λ e. is_small e.0 && is_small e.1) es ≡ true → list_all is_small ds ≡ true
    → run (reading_at (parts_of before degrees [] []) (Number (Degree e.0 e.1) a)) (edges_text es ds ++ 32 ∷ 99 ∷ rest)
    ≡ run (reading_at (parts_of (before ++ e ∷ es) (degrees ++ a ∷ ds) [] []) (Inside Colours 1)) rest
unfolding after
edges_run [] [] before degrees e a rest long few small small_degrees = refl
edges_run [] (d ∷ ds) before degrees e a rest long few small small_degrees = absurd cc
edges_run (f ∷ es) [] before degrees e a rest long few small small_degrees = absurd cc
edges_run (f ∷ es) (d ∷ ds) before degrees e a rest long few small small_degrees =
    let tail = 32 ∷ 99 ∷ rest in
    let more = parts_of (before ++ e ∷ []) (degrees ++ a ∷ []) [] [] in
    let ends = and_parts _ _ small in
    let both = and_parts _ _ ends.0 in
    let sizes = and_parts _ _ small_degrees in
    let count = length_push before e in
    let room : length (before ++ e ∷ []) < 10 = omega arith in
    ap (λ (t : List ℕ). run (reading_at (parts_of before degrees [] []) (Number (Degree e.0 e.1) a)) t) (edge_first f d es ds tail)
    ∙ edge_run more MoreEdges f d (edges_text es ds ++ tail) (λ k. cond-true (nat_lt (length (before ++ e ∷ [])) 10) _ _ (lt-ltb _ 10 room))
    (ltb-true f.0 100 both.0) (ltb-true f.1 100 both.1) (ltb-true d 100 sizes.0)
    ∙ edges_run es ds (before ++ e ∷ []) (degrees ++ a ∷ []) f d rest (omega arith) (omega arith) ends.1 sizes.1
    ∙ ap₂ (λ (x : List (ℕ × ℕ)) (y : List ℕ). run (reading_at (parts_of x y [] []) (Inside Colours 1)) rest) (append_assoc before (e ∷ []) (f ∷ es)) (append_assoc degrees (a ∷ []) (d ∷ ds))

-- ---- colours and marks

number_then : (n : ℕ) (ns rest : List ℕ) → numbers_text (n ∷ ns) ++ rest ≡ 32 ∷ (decimal n ++ (numbers_text ns ++ rest))
number_then n ns rest = regroup (decimal n) (numbers_text ns)
  where
    regroup : (d t : List ℕ) → codes " " ++ d ++ t ++ rest ≡ 32 ∷ (d ++ (t ++ rest))
    regroup d t = simp append_assoc

colours_run : (es : List (ℕ × ℕ)) (ds cs before : List ℕ) (c : ℕ) (rest : List ℕ)
    → 2 ≤ length before + (1 + length cs) → length before + (1 + length cs) ≤ 11 → list_all is_small cs ≡ true
    → run (reading_at (parts_of es ds before []) (Number Colour c)) (numbers_text cs ++ 32 ∷ 109 ∷ rest)
    ≡ run (reading_at (parts_of es ds (before ++ c ∷ cs) []) (Inside Marks 1)) rest
unfolding after
colours_run es ds [] before c rest enough few small =
    let count = length_push before c in
    let two : 2 ≤ length (before ++ c ∷ []) = omega arith in
    ap (λ (b : Bool). option_and_then (λ s. run s rest) (if b then Some (reading_at (parts_of es ds (before ++ c ∷ []) []) (Inside Marks 1)) else None))
    (le-leb 2 (length (before ++ c ∷ [])) two)
colours_run es ds (f ∷ cs) before c rest enough few small =
    let tail = 32 ∷ 109 ∷ rest in
    let more = parts_of es ds (before ++ c ∷ []) [] in
    let each = and_parts _ _ small in
    let count = length_push before c in
    let room : length (before ++ c ∷ []) < 11 = omega arith in
    ap (λ (t : List ℕ). run (reading_at (parts_of es ds before []) (Number Colour c)) t) (number_then f cs tail)
    ∙ number_run more MoreColours Colour f (numbers_text cs ++ tail) (λ k. cond-true (nat_lt (length (before ++ c ∷ [])) 11) _ _ (lt-ltb _ 11 room)) (ltb-true f 100 each.0)
    ∙ colours_run es ds cs (before ++ c ∷ []) f rest (omega arith) (omega arith) each.1
    ∙ ap (λ (x : List ℕ). run (reading_at (parts_of es ds x []) (Inside Marks 1)) rest) (append_assoc before (c ∷ []) (f ∷ cs))

mark_space : (es : List (ℕ × ℕ)) (ds cs before : List ℕ) (v : ℕ) (t : List ℕ) → nat_lt (length before) 11 ≡ true
    → parts_after (reading_at (parts_of es ds cs before) (Number Mark v)) (32 ∷ t) ≡ parts_after (reading_at (parts_of es ds cs (before ++ v ∷ [])) (Start Mark)) t
unfolding after
mark_space es ds cs before v t h =
    ap (λ (b : Bool). option_and_then finished (option_and_then (λ s. run s t)
    (if b then Some (reading_at (parts_of es ds cs (before ++ v ∷ [])) (Start Mark)) else None))) h

marks_run : (es : List (ℕ × ℕ)) (ds cs ms before : List ℕ) (v : ℕ) → length before + (1 + length ms) ≤ 12 → list_all is_small ms ≡ true
    → parts_after (reading_at (parts_of es ds cs before) (Number Mark v)) (numbers_text ms) ≡ Some (parts_of es ds cs (before ++ v ∷ ms))
unfolding after
marks_run es ds cs [] before v few small = refl
marks_run es ds cs (w ∷ ms) before v few small =
    let more = parts_of es ds cs (before ++ v ∷ []) in
    let each = and_parts _ _ small in
    let count = length_push before v in
    let room : length before < 11 = omega arith in
    mark_space es ds cs before v (decimal w ++ numbers_text ms) (lt-ltb (length before) 11 room)
    ∙ ap (λ (o : Option Reader). option_and_then finished o) (number_run more (Start Mark) Mark w (numbers_text ms) (λ k. refl) (ltb-true w 100 each.0))
    ∙ marks_run es ds cs ms (before ++ v ∷ []) w (omega arith) each.1
    ∙ ap (λ (x : List ℕ). Some (parts_of es ds cs x)) (append_assoc before (v ∷ []) (w ∷ ms))

-- ---- the whole text

edges_word : (t : List ℕ) → run first_reader (codes "edges" ++ 32 ∷ t) ≡ run (reading_at (parts_of [] [] [] []) (Start FirstEnd)) t
unfolding after
edges_word t = refl

colours_word : (p : Parts) (t : List ℕ) → run (reading_at p (Inside Colours 1)) (codes "olours" ++ 32 ∷ t) ≡ run (reading_at p (Start Colour)) t
unfolding after
colours_word p t = refl

marks_word : (p : Parts) (t : List ℕ) → run (reading_at p (Inside Marks 1)) (codes "arks" ++ t) ≡ run (reading_at p (Inside Marks 5)) t
unfolding after
marks_word p t = refl

whole_run : (e : ℕ × ℕ) (es : List (ℕ × ℕ)) (a : ℕ) (ds : List ℕ) (c : ℕ) (cs end : List ℕ)
    → length ds ≡ length es → 1 + length es ≤ 10 → 2 ≤ 1 + length cs → 1 + length cs ≤ 11
    → list_all (λ e. is_small e.0 && is_small e.1) (e ∷ es) ≡ true → list_all is_small (a ∷ ds) ≡ true → list_all is_small (c ∷ cs) ≡ true
    → run first_reader (codes "edges" ++ edges_text (e ∷ es) (a ∷ ds) ++ codes " colours" ++ numbers_text (c ∷ cs) ++ codes " marks" ++ end)
    ≡ run (reading_at (parts_of (e ∷ es) (a ∷ ds) (c ∷ cs) []) (Inside Marks 5)) end
whole_run e es a ds c cs end long few enough room ends sizes smalls =
    let x = and_parts _ _ ends in
    let y = and_parts _ _ x.0 in
    let z = and_parts _ _ sizes in
    let w = and_parts _ _ smalls in
    let after_colours = 32 ∷ 109 ∷ codes "arks" ++ end in
    let after_edges = 32 ∷ 99 ∷ codes "olours" ++ 32 ∷ (decimal c ++ (numbers_text cs ++ after_colours)) in
    ap (λ (t : List ℕ). run first_reader t) (regrouped (edges_text (e ∷ es) (a ∷ ds)) (numbers_text (c ∷ cs)))
    ∙ ap (λ (t : List ℕ). run first_reader (codes "edges" ++ (edges_text (e ∷ es) (a ∷ ds) ++ (32 ∷ 99 ∷ codes "olours" ++ t)))) (number_then c cs after_colours)
    ∙ ap (λ (t : List ℕ). run first_reader (codes "edges" ++ t)) (edge_first e a es ds after_edges)
    ∙ edges_word (edge_then e a (edges_text es ds ++ after_edges))
    ∙ edge_run (parts_of [] [] [] []) (Start FirstEnd) e a (edges_text es ds ++ after_edges) (λ d. refl) (ltb-true e.0 100 y.0) (ltb-true e.1 100 y.1) (ltb-true a 100 z.0)
    ∙ edges_run es ds [] [] e a (codes "olours" ++ 32 ∷ (decimal c ++ (numbers_text cs ++ after_colours))) long (omega arith) x.1 z.1
    ∙ colours_word (parts_of (e ∷ es) (a ∷ ds) [] []) (decimal c ++ (numbers_text cs ++ after_colours))
    ∙ number_run (parts_of (e ∷ es) (a ∷ ds) [] []) (Start Colour) Colour c (numbers_text cs ++ after_colours) (λ d. refl) (ltb-true c 100 w.0)
    ∙ colours_run (e ∷ es) (a ∷ ds) cs [] c (codes "arks" ++ end) (omega arith) (omega arith) w.1
    ∙ marks_word (parts_of (e ∷ es) (a ∷ ds) (c ∷ cs) []) end
  where
    regrouped : (t s : List ℕ) → codes "edges" ++ t ++ codes " colours" ++ s ++ codes " marks" ++ end
        ≡ codes "edges" ++ (t ++ (32 ∷ 99 ∷ codes "olours" ++ (s ++ (32 ∷ 109 ∷ codes "arks" ++ end))))
    regrouped t s = simp append_assoc

marks_end : (es : List (ℕ × ℕ)) (ds cs ms : List ℕ) → length ms ≤ 12 → list_all is_small ms ≡ true
    → parts_after (reading_at (parts_of es ds cs []) (Inside Marks 5)) (marks_text ms) ≡ Some (parts_of es ds cs ms)
unfolding after
marks_end es ds cs [] few small = refl
marks_end es ds cs (v ∷ ms) few small =
    let each = and_parts _ _ small in
    let none = parts_of es ds cs [] in
    ap (λ (o : Option Reader). option_and_then finished o) (number_run none FirstMark Mark v (numbers_text ms) (λ d. refl) (ltb-true v 100 each.0))
    ∙ marks_run es ds cs ms [] v (omega arith) each.1

-- the text of a tree is read as its parts
pub text_read : (g : DecoratedTree) → HasText g → parts_after first_reader (tree_text g) ≡ Some (parts_of g.edges g.degrees g.colours g.marks)
text_read g h =
    by_parts g.edges g.degrees g.colours h.least_edges h.most_edges h.degrees h.least_colours h.most_colours h.small_ends h.small_degrees h.small_colours
  where
    by_parts : (es : List (ℕ × ℕ)) (ds cs : List ℕ) → 1 ≤ length es → length es ≤ 10 → length ds ≡ length es → 2 ≤ length cs → length cs ≤ 11
        → list_all (λ e. is_small e.0 && is_small e.1) es ≡ true → list_all is_small ds ≡ true → list_all is_small cs ≡ true
        → parts_after first_reader (codes "edges" ++ edges_text es ds ++ codes " colours" ++ numbers_text cs ++ codes " marks" ++ marks_text g.marks)
        ≡ Some (parts_of es ds cs g.marks)
    by_parts [] ds cs some few long enough room ends sizes smalls = absurd (omega arith)
    by_parts (e ∷ es) [] cs some few long enough room ends sizes smalls = absurd (omega arith)
    by_parts (e ∷ es) (a ∷ ds) [] some few long enough room ends sizes smalls = absurd (omega arith)
    by_parts (e ∷ es) (a ∷ ds) (c ∷ cs) some few long enough room ends sizes smalls =
        ap (λ (o : Option Reader). option_and_then finished o)
        (whole_run e es a ds c cs (marks_text g.marks) (omega arith) (omega arith) (omega arith) (omega arith) ends sizes smalls)
        ∙ marks_end (e ∷ es) (a ∷ ds) (c ∷ cs) g.marks h.most_marks h.small_marks
