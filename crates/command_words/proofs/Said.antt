-- What the words say, as a relation and as a function.
use Rattle.std.proofs.Common.{◌≡◌, ◌⊎◌, inl, inr, cond, ℕ, zero, suc, ◌<◌, ◌==◌, List, [], ◌∷◌, ◌++◌, length, codes, Option, Some, None, Bool, true, false, not, refl, ap, ap₂, sym, subst, ◌∙◌, arith}
use Rattle.std.proofs.lemmas.Bool.{false≢true}
use Rattle.std.proofs.lemmas.Bool.Decides.{Decides-eqb}
use Rattle.std.proofs.lemmas.Option.{same_Some}
use Rattle.std.specs.List.{list_any}
use Rattle.std.specs.Prelude.{option_and_then}
use Rattle.clap.specs.Lexer.{has_byte, long_of, long_of_rest, name_and_value, short_of, strip_byte}
use Rattle.clap.specs.Walk.{Text}
use Rattle.clap.proofs.CutLemmas.{Lacks}
use Rattle.clap.proofs.LexerLemmas.{name_and_value-at, name_and_value-without}
use Rattle.command_words.specs.Usages.{is_plain}
use Rattle.command_words.specs.Words.{Item, plain, option, Says, nothing, bare_word, apart, joined, has_empty_value, is_empty, is_empty_option, is_name, is_refused_first}
use Rattle.command_words.proofs.Items.{attached, alone, bare, form_by, form_of, items_by, items_of, more, rest_by, rest_of}
use Rattle.command_words.proofs.Passing.{from_more, from_rest}
use Rattle.command_words.proofs.Bools.{or_false, not_true}

lacks_byte : (xs : Text) → has_byte 61 xs ≡ false → Lacks 61 xs
lacks_byte [] e i lt same = absurd (omega arith)
lacks_byte (x ∷ xs) e zero lt same = absurd (false≢true (sym (or_false (x == 61) _ e).0 ∙ (Decides-eqb x 61).1 same))
lacks_byte (x ∷ xs) e (suc i) lt same = lacks_byte xs (or_false (x == 61) _ e).1 i (omega arith) same

-- ---- from the relation to the function

pub plain_long : (w : Text) → is_plain w ≡ true → long_of w ≡ None
plain_long [] e = absurd (false≢true e)
plain_long (x ∷ xs) e = rw (not_true (x == 45) e) refl

pub alone_long : (name : Text) → is_name name ≡ true → 0 < length name
    → long_of (codes "--" ++ name) ≡ Some (name, None)
alone_long [] e some = absurd (omega arith)
alone_long (x ∷ xs) e some = ap Some (name_and_value-without (x ∷ xs) (lacks_byte (x ∷ xs) (not_true _ e)))

plain_form : (w : Text) → is_plain w ≡ true → form_of w ≡ bare
plain_form [] e = absurd (false≢true e)
plain_form (x ∷ xs) e = rw (not_true (x == 45) e) refl

alone_form : (name : Text) → is_name name ≡ true → 0 < length name → form_of (codes "--" ++ name) ≡ alone name
alone_form name e some = ap (λ o. form_by o (short_of (codes "--" ++ name))) (alone_long name e some)

long_rest : (xs : Text) (y : ℕ) (ys : Text) → long_of_rest (xs ++ y ∷ ys) ≡ Some (name_and_value (xs ++ y ∷ ys))
long_rest [] y ys = refl
long_rest (x ∷ xs) y ys = refl

pub attached_long : (name value : Text) → is_name name ≡ true
    → long_of (codes "--" ++ name ++ 61 ∷ value) ≡ Some (name, Some value)
attached_long name value e =
    long_rest name 61 value ∙ ap Some (name_and_value-at name value (lacks_byte name (not_true _ e)))

attached_form : (name value : Text) → is_name name ≡ true
    → form_of (codes "--" ++ name ++ 61 ∷ value) ≡ attached name value
attached_form name value e =
    ap (λ o. form_by o (short_of (codes "--" ++ name ++ 61 ∷ value))) (attached_long name value e)

pub said : (ws : List Text) (is : List Item) → Says ws is → items_of ws ≡ Some is
said _ _ nothing = refl
said _ _ (bare_word w ws is e says) = rw (plain_form w e, said ws is says) refl
said _ _ (apart name value ws is e some v says) = rw (alone_form name e some, plain_form value v, said ws is says) refl
said _ _ (joined name value ws is e v says) = rw (attached_form name value e, said ws is says) refl

-- ---- from the function to the relation

-- the text has no `=`, or is cut at the first
abbrev Cut : Text → Type 0
Cut text =
    (has_byte 61 text ≡ false) ⊎
    ((name : Text) × (value : Text) × (text ≡ name ++ 61 ∷ value) × (has_byte 61 name ≡ false))

cut : (text : Text) → Cut text
cut [] = inl refl
cut (x ∷ xs) = step (x == 61) refl (cut xs)
  where
    step : (b : Bool) → (x == 61) ≡ b → Cut xs → Cut (x ∷ xs)
    step true e rest = inr ([], xs, ap (λ y. y ∷ xs) ((Decides-eqb x 61).0 e), refl)
    step false e (inl none) = inl (rw e none)
    step false e (inr (name, value, same, none)) = inr (x ∷ name, value, ap (λ ys. x ∷ ys) same, rw e none)

-- what follows `--`
dashes : (w : Text) (p : Text × Option Text) → long_of w ≡ Some p
    → (rest : Text) × (w ≡ 45 ∷ 45 ∷ rest) × (0 < length rest) × (name_and_value rest ≡ p)
dashes [] p e = cc
dashes (x ∷ xs) p e = first (x == 45) refl e
  where
    last : (zs : Text) → (x ∷ xs) ≡ 45 ∷ 45 ∷ zs → long_of_rest zs ≡ Some p
        → (rest : Text) × ((x ∷ xs) ≡ 45 ∷ 45 ∷ rest) × (0 < length rest) × (name_and_value rest ≡ p)
    last [] same e = cc
    last (z ∷ zs) same e = (z ∷ zs, same, omega arith, same_Some _ p e)

    second : (ys : Text) (b : Bool) → xs ≡ ys → (x == 45) ≡ true
        → option_and_then long_of_rest (strip_byte 45 ys) ≡ Some p
        → (rest : Text) × ((x ∷ xs) ≡ 45 ∷ 45 ∷ rest) × (0 < length rest) × (name_and_value rest ≡ p)
    second [] b same t e = cc
    second (y ∷ ys) b same t e = by_test (y == 45) refl e
      where
        by_test : (b : Bool) → (y == 45) ≡ b → option_and_then long_of_rest (cond b (Some ys) None) ≡ Some p
            → (rest : Text) × ((x ∷ xs) ≡ 45 ∷ 45 ∷ rest) × (0 < length rest) × (name_and_value rest ≡ p)
        by_test true u e = last ys (rw (same, (Decides-eqb x 45).0 t, (Decides-eqb y 45).0 u) refl) e
        by_test false u e = cc

    first : (b : Bool) → (x == 45) ≡ b
        → option_and_then long_of_rest (option_and_then (strip_byte 45) (cond b (Some xs) None)) ≡ Some p
        → (rest : Text) × ((x ∷ xs) ≡ 45 ∷ 45 ∷ rest) × (0 < length rest) × (name_and_value rest ≡ p)
    first true t e = second xs true refl t e
    first false t e = cc

pub alone_word : (w name : Text) → long_of w ≡ Some (name, None)
    → (w ≡ codes "--" ++ name) × (is_name name ≡ true) × (0 < length name)
alone_word w name e = by_cut (dashes w (name, None) e)
  where
    by_cut : (rest : Text) × (w ≡ 45 ∷ 45 ∷ rest) × (0 < length rest) × (name_and_value rest ≡ (name, None))
        → (w ≡ codes "--" ++ name) × (is_name name ≡ true) × (0 < length name)
    by_cut (rest, same, some, is) = go (cut rest)
      where
        go : Cut rest → (w ≡ codes "--" ++ name) × (is_name name ≡ true) × (0 < length name)
        go (inl none) =
            let here : rest ≡ name =
            ap (λ (p : Text × Option Text). p.0) (sym (name_and_value-without rest (lacks_byte rest none)) ∙ is) in
            (same ∙ ap (λ t. 45 ∷ 45 ∷ t) here, rw (← here, none) refl, rw (← here) some)
        go (inr (xs, ys, split, none)) =
            let both : (xs, Some ys) ≡ (name, None) =
            sym (name_and_value-at xs ys (lacks_byte xs none)) ∙ ap name_and_value (sym split) ∙ is in
            let wrong : Some ys ≡ None = ap (λ (p : Text × Option Text). p.1) both in
            cc

empty_value : (name value : Text) → has_byte 61 name ≡ false → has_empty_value (name ++ 61 ∷ value) ≡ is_empty value
empty_value [] value none = refl
empty_value (x ∷ xs) value none = rw (or_false (x == 61) _ none).0 (empty_value xs value (or_false (x == 61) _ none).1)

no_empty_value : (name : Text) → has_byte 61 name ≡ false → has_empty_value name ≡ false
no_empty_value [] none = refl
no_empty_value (x ∷ xs) none = rw (or_false (x == 61) _ none).0 (no_empty_value xs (or_false (x == 61) _ none).1)

pub some_bytes : (value : Text) → is_empty value ≡ false → 0 < length value
some_bytes [] e = absurd (false≢true (sym e))
some_bytes (x ∷ xs) e = omega arith

pub not_empty : (value : Text) → 0 < length value → is_empty value ≡ false
not_empty [] some = absurd (omega arith)
not_empty (x ∷ xs) some = refl

pub attached_cut : (w name value : Text) → long_of w ≡ Some (name, Some value)
    → (w ≡ codes "--" ++ name ++ 61 ∷ value) × (is_name name ≡ true)
attached_cut w name value e = by_cut (dashes w (name, Some value) e)
  where
    by_cut : (rest : Text) × (w ≡ 45 ∷ 45 ∷ rest) × (0 < length rest) × (name_and_value rest ≡ (name, Some value))
        → (w ≡ codes "--" ++ name ++ 61 ∷ value) × (is_name name ≡ true)
    by_cut (rest, same, some, is) = go (cut rest)
      where
        go : Cut rest → (w ≡ codes "--" ++ name ++ 61 ∷ value) × (is_name name ≡ true)
        go (inl none) =
            let both : (rest, None) ≡ (name, Some value) =
            sym (name_and_value-without rest (lacks_byte rest none)) ∙ is in
            let wrong : None ≡ Some value = ap (λ (p : Text × Option Text). p.1) both in
            cc
        go (inr (xs, ys, split, none)) =
            let both : (xs, Some ys) ≡ (name, Some value) =
            sym (name_and_value-at xs ys (lacks_byte xs none)) ∙ ap name_and_value (sym split) ∙ is in
            let here : xs ≡ name = ap (λ (p : Text × Option Text). p.0) both in
            let there : ys ≡ value = same_Some ys value (ap (λ (p : Text × Option Text). p.1) both) in
            let whole : w ≡ codes "--" ++ xs ++ 61 ∷ ys = same ∙ ap (λ t. 45 ∷ 45 ∷ t) split in
            (whole ∙ ap₂ (λ a b. codes "--" ++ a ++ 61 ∷ b) here there, rw (← here, none) refl)

attached_word : (w name value : Text) → long_of w ≡ Some (name, Some value) → is_empty_option w ≡ false
    → (w ≡ codes "--" ++ name ++ 61 ∷ value) × (is_name name ≡ true) × (0 < length value)
attached_word w name value e good =
    let (same, named) = attached_cut w name value e in
    let fine : has_empty_value (name ++ 61 ∷ value) ≡ false = sym (ap is_empty_option same) ∙ good in
    (same, named, some_bytes value (sym (empty_value name value (not_true _ named)) ∙ fine))

plain_word : (w : Text) → long_of w ≡ None → short_of w ≡ None → is_refused_first w ≡ false → is_plain w ≡ true
plain_word [] lw sw passes = absurd (false≢true (sym passes))
plain_word (x ∷ xs) lw sw passes = first (x == 45) refl
  where
    second : (ys : Text) → (x ∷ xs) ≡ 45 ∷ ys → long_of (45 ∷ ys) ≡ None → short_of (45 ∷ ys) ≡ None
        → is_refused_first (45 ∷ ys) ≡ false → ⊥
    second [] same lw sw passes = false≢true (sym passes)
    second (y ∷ []) same lw sw passes = ends (y == 45) refl
      where
        ends : (b : Bool) → (y == 45) ≡ b → ⊥
        ends true e =
            let it : y ≡ 45 = (Decides-eqb y 45).0 e in
            let whole : is_refused_first (45 ∷ 45 ∷ []) ≡ false = ap (λ z. is_refused_first (45 ∷ z ∷ [])) (sym it) ∙ passes in
            false≢true (sym whole)
        ends false e = let it : short_of (45 ∷ y ∷ []) ≡ Some (y ∷ []) = rw e refl in cc
    second (y ∷ z ∷ zs) same lw sw passes = ends (y == 45) refl
      where
        ends : (b : Bool) → (y == 45) ≡ b → ⊥
        ends true e = let it : long_of (45 ∷ y ∷ z ∷ zs) ≡ Some (name_and_value (z ∷ zs)) = rw e refl in cc
        ends false e = let it : short_of (45 ∷ y ∷ z ∷ zs) ≡ Some (y ∷ z ∷ zs) = rw e refl in cc

    first : (b : Bool) → (x == 45) ≡ b → not b ≡ true
    first true e =
        let it : (x ∷ xs) ≡ 45 ∷ xs = ap (λ y. y ∷ xs) ((Decides-eqb x 45).0 e) in
        absurd
        (second xs it (sym (ap long_of it) ∙ lw) (sym (ap short_of it) ∙ sw) (sym (ap is_refused_first it) ∙ passes))
    first false e = refl

record IsSaid (ws : List Text) : Type 0 where
  at_items : (is : List Item) → items_of ws ≡ Some is → Says ws is
  at_rest : (r : Text × List Item) → rest_of ws ≡ Some r
      → (tail : List Text) × (ws ≡ r.0 ∷ tail) × (is_plain r.0 ≡ true) × Says tail r.1

items_step : (l : Option (Text × Option Text)) (short : Option Text) (w : Text) (ws : List Text) (is : List Item)
    → long_of w ≡ l → short_of w ≡ short → is_refused_first w ≡ false → IsSaid ws
    → items_by (form_by l short) w (items_of ws) (rest_of ws) ≡ Some is → Says (w ∷ ws) is
items_step (Some (name, Some value)) short w ws is lw sw passes behind e =
    from_more (option name value) (items_of ws) is (Says (w ∷ ws)) e
    (λ js f. let (same, named, fine) = attached_word w name value lw (or_false _ _ passes).1 in
    subst (λ v. Says (v ∷ ws) (option name value ∷ js)) (sym same)
    (joined name value ws js named fine (behind.at_items js f)))
items_step (Some (name, None)) short w ws is lw sw passes behind e =
    from_rest name (rest_of ws) is (Says (w ∷ ws)) e
    (λ r f. let (same, named, some) = alone_word w name lw in
    let (tail, split, fine, says) = behind.at_rest r f in
    subst (λ v. Says (v ∷ ws) (option name r.0 ∷ r.1)) (sym same)
    (subst (λ us. Says ((codes "--" ++ name) ∷ us) (option name r.0 ∷ r.1)) (sym split) (apart name r.0 tail r.1 named some fine says)))
items_step None (Some flags) w ws is lw sw passes behind e = cc
items_step None None w ws is lw sw passes behind e =
    from_more (plain w) (items_of ws) is (Says (w ∷ ws)) e
    (λ js f. bare_word w ws js (plain_word w lw sw passes) (behind.at_items js f))

rest_step : (l : Option (Text × Option Text)) (short : Option Text) (w : Text) (ws : List Text) (items : Option (List Item)) (r : Text × List Item)
    → long_of w ≡ l → short_of w ≡ short → is_refused_first w ≡ false → items_of ws ≡ items → IsSaid ws
    → rest_by (form_by l short) w items ≡ Some r
    → (tail : List Text) × ((w ∷ ws) ≡ r.0 ∷ tail) × (is_plain r.0 ≡ true) × Says tail r.1
rest_step (Some (name, Some value)) short w ws items r lw sw passes is behind e = cc
rest_step (Some (name, None)) short w ws items r lw sw passes is behind e = cc
rest_step None (Some flags) w ws items r lw sw passes is behind e = cc
rest_step None None w ws None r lw sw passes is behind e = cc
rest_step None None w ws (Some js) r lw sw passes is behind e =
    subst
    (λ (q : Text × List Item). (tail : List Text) × ((w ∷ ws) ≡ q.0 ∷ tail) × (is_plain q.0 ≡ true) × Says tail q.1)
    (same_Some (w, js) r e)
    (ws, refl, plain_word w lw sw passes, behind.at_items js is)

are_said : (ws : List Text) → list_any is_refused_first ws ≡ false → IsSaid ws
are_said [] passes = record { at_items = λ is e. subst (Says []) (same_Some [] is e) nothing; at_rest = λ r e. cc }
are_said (w ∷ ws) passes =
    let (here, more) = or_false _ _ passes in
    let behind = are_said ws more in
    record {
      at_items = λ is e. items_step (long_of w) (short_of w) w ws is refl refl here behind e;
      at_rest = λ r e. rest_step (long_of w) (short_of w) w ws (items_of ws) r refl refl here refl behind e;
    }

pub says : (ws : List Text) (is : List Item) → list_any is_refused_first ws ≡ false → items_of ws ≡ Some is → Says ws is
says ws is passes e = (are_said ws passes).at_items is e

-- ---- words that say items pass the first look

pub plain_passes : (w : Text) → is_plain w ≡ true → is_refused_first w ≡ false
plain_passes [] e = absurd (false≢true e)
plain_passes (x ∷ xs) e = rw (not_true (x == 45) e) refl

alone_passes : (name : Text) → is_name name ≡ true → 0 < length name → is_refused_first (codes "--" ++ name) ≡ false
alone_passes [] e some = absurd (omega arith)
alone_passes (x ∷ xs) e some = no_empty_value (x ∷ xs) (not_true _ e)

joined_passes : (name value : Text) → is_name name ≡ true → 0 < length value
    → is_refused_first (codes "--" ++ name ++ 61 ∷ value) ≡ false
joined_passes [] value e some = not_empty value some
joined_passes (x ∷ xs) value e some = empty_value (x ∷ xs) value (not_true _ e) ∙ not_empty value some

pub passes_first : (ws : List Text) (is : List Item) → Says ws is → list_any is_refused_first ws ≡ false
passes_first _ _ nothing = refl
passes_first _ _ (bare_word w ws is e says) = rw (plain_passes w e) (passes_first ws is says)
passes_first _ _ (apart name value ws is e some v says) =
    rw (alone_passes name e some, plain_passes value v) (passes_first ws is says)
passes_first _ _ (joined name value ws is e v says) = rw (joined_passes name value e v) (passes_first ws is says)
