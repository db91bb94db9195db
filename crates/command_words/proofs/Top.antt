-- The walk over the words of the command line up to the subcommand, and the law for all lists of words: clap accepts
-- them exactly if the table does.
use Rattle.std.proofs.Common.{◌≡◌, cond, ℕ, List, [], ◌∷◌, ◌++◌, map, drop, fold, find, Option, Some, None, option_map, is_some, Bool, true, false, ◌&&◌, ◌||◌, length, slice_get, refl, ap, ap₂, ◌∙◌, sym, subst}
use Rattle.std.proofs.lemmas.Bool.{false≢true}
use Rattle.std.proofs.lemmas.Option.{same_Some}
use Rattle.std.proofs.lemmas.List.{append-nil, append_assoc}
use Rattle.std.proofs.lemmas.Slice.Eq.{bytes_eq-Decides}
use Rattle.std.specs.List.{list_all}
use Rattle.std.specs.Option.{option_map_or}
use Rattle.std.specs.Str.{bytes_eq, chars}
use Rattle.clap.specs.Lexer.{long_of, short_of}
use Rattle.clap.specs.Walk.{Held, Row, one_of, rows_after, Names, Rule, Text, Walk, answers_to, idle, nothing_held, subcommand_met, walk, walk_from, walked, settled, finished}
use Rattle.clap.specs.Simple.{App, subcommand_of, Shape, built, label_of, names_of, entered}
use Rattle.clap.specs.Faults.{built_fault, fault_of, flags_fault, level_fault, turn_fault, walk_fault, entered_fault, settle_fault, defaults_fault, check_fault}
use Rattle.clap.specs.Kinds.{Kinds, or_else}
use Rattle.clap.specs.declared.error.kind.ErrorKind.TheVariants as kind
use Rattle.clap.proofs.FaultLemmas.{stopped_fault}
use Rattle.clap.proofs.OnLiterals.{clap_on_literals}
use Rattle.command_words.specs.Usages.{Usage, is_sound}
use Rattle.command_words.specs.Words.{Item, is_use, value_named}
use Rattle.command_words.specs.Rows.{values_in, usage_named}
use Rattle.command_words.proofs.Items.{Items, is_used, is_words, items_of}
use Rattle.command_words.specs.Clap.{app_for}
use Rattle.command_words.specs.Rows.{rows_for}
use Rattle.command_words.proofs.Args.{args_for, rules_built}
use Rattle.command_words.proofs.Rows.{empty}
use Rattle.command_words.proofs.Passing.{AreWords, IsWord, leaf, no_chars, take_items}
use Rattle.command_words.proofs.Walks.{level_leaves, level_reads}
use Rattle.command_words.proofs.Uses.{sound_different, sound_use, sound_values}
use Rattle.command_words.proofs.Bools.{and_false, or_else_end}

abbrev pub leaf_for : Usage → Shape
leaf_for u = leaf u.name (args_for u)

-- the whole command, as it is built
abbrev pub top : Text → Shape
top name = (built (app_for name [])).top

abbrev pub whole : Text → List Usage → App
whole name table = record { top = top name; subs = map leaf_for table }

subs_built : (name : Text) (table : List Usage) → (built (app_for name table)).subs ≡ map leaf_for table
subs_built name [] = refl
subs_built name (u ∷ table) =
    ap₂ (λ s ss. s ∷ ss) (ap (λ rs. record (leaf_for u) { rules = rs }) (rules_built u)) (subs_built name table)

pub whole_built : (name : Text) (table : List Usage) → built (app_for name table) ≡ whole name table
whole_built name table = ap (λ ss. record { top = top name; subs = ss }) (subs_built name table)

abbrev pub names_for : List Usage → Names
names_for table = map (λ u. (u.name, [])) table

names_built : (name : Text) (table : List Usage) → names_of (whole name table) ≡ names_for table
names_built name [] = refl
names_built name (u ∷ table) = ap (λ ns. (u.name, []) ∷ ns) (names_built name table)

-- ---- the command that a word names

found_step : {A : Type 0} (f : Usage → A) (b : Bool) (u : Usage) (l : Option A) (r : Option Usage) → l ≡ option_map f r
    → cond (b || false) (Some (f u)) l ≡ option_map f (cond b (Some u) r)
found_step f true u l r e = refl
found_step f false u l r e = e

name_found : (table : List Usage) (word : Text)
    → find (answers_to word) (names_for table) ≡ option_map (λ u. (u.name, [])) (usage_named table word)
name_found [] word = refl
name_found (u ∷ table) word = found_step (λ v. (v.name, [])) (bytes_eq u.name word) u _ _ (name_found table word)

leaf_found : (table : List Usage) (word : Text)
    → find (λ s. answers_to word (label_of s)) (map leaf_for table) ≡ option_map leaf_for (usage_named table word)
leaf_found [] word = refl
leaf_found (u ∷ table) word = found_step leaf_for (bytes_eq u.name word) u _ _ (leaf_found table word)

pub name_is : (table : List Usage) (word : Text) (u : Usage) → usage_named table word ≡ Some u → u.name ≡ word
name_is [] word u e = cc
name_is (v ∷ table) word u e = step (bytes_eq v.name word) refl e (name_is table word u)
  where
    step : (b : Bool) → bytes_eq v.name word ≡ b → cond b (Some v) (usage_named table word) ≡ Some u
        → (usage_named table word ≡ Some u → u.name ≡ word) → u.name ≡ word
    step true here e rest = ap (λ x. x.name) (sym (same_Some v u e)) ∙ (bytes_eq-Decides v.name word).0 here
    step false here e rest = rest e

met : (table : List Usage) (word : Text)
    → subcommand_met (names_for table) idle word ≡ option_map (λ u. u.name) (usage_named table word)
met table word = ap (option_map (λ (s : Text × List Text). s.0)) (name_found table word) ∙ step (usage_named table word)
  where
    step : (o : Option Usage)
        → option_map (λ (s : Text × List Text). s.0) (option_map (λ u. (u.name, [])) o) ≡ option_map (λ u. u.name) o
    step None = refl
    step (Some u) = refl

-- ---- past the command's name

-- past a subcommand the words are its own
walk_stopped : (c : List Rule) (names : Names) (name : Text) (before : List Text) (ws : List Text) (w : Walk)
    → fold (walked c names) (record w { stopped = Some (name, before) }) ws ≡ record w { stopped = Some (name, before ++ ws) }
unfolding walked
walk_stopped c names name before [] w = rw append-nil
walk_stopped c names name before (x ∷ ws) w = walk_stopped c names name (before ++ x ∷ []) ws w ∙ rw append_assoc

walk_command : (names : Names) (word name : Text) (ws : List Text) → subcommand_met names idle word ≡ Some name
    → walk [] names nothing_held (word ∷ ws) ≡ record (walk_from nothing_held) { stopped = Some (name, ws) }
unfolding walked
walk_command names word name ws e = rw e (walk_stopped [] names name [] ws (walk_from nothing_held))

faults_command : (program : Text) (names : Names) (word name : Text) (ws : List Text)
    → subcommand_met names idle word ≡ Some name
    → walk_fault (top program) names (walk_from nothing_held) (word ∷ ws) ≡ []
unfolding walk_fault walked
faults_command program names word name ws e =
    rw (e, and_false _) (stopped_fault (top program) names (walk_from nothing_held) (name, []) ws)

-- what is asked above the command passes
above : (program : Text) (table : List Usage) (names : Names) (u : Usage) (w : Walk) (ws : List Text) (faults : Kinds)
    → w ≡ record (walk_from nothing_held) { stopped = Some (u.name, ws) } → faults ≡ []
    → usage_named table u.name ≡ Some u
    → or_else faults (or_else (entered_fault (whole program table) w.stopped) (or_else (settle_fault [] false w.held) (or_else (defaults_fault (settled [] w.held).rows []) (check_fault (top program) (finished [] w.held) (is_some (entered (whole program table) w.stopped))))))
    ≡ level_fault (leaf_for u) [] nothing_held ws false []
unfolding defaults_fault
above program table names u w ws faults e none found = rw (e, none, leaf_found table u.name, found) (or_else_end _)

command_fault : (program : Text) (table : List Usage) (u : Usage) (word : Text) (ws : List Text)
    → usage_named table word ≡ Some u
    → built_fault (whole program table) nothing_held (word ∷ ws) ≡ level_fault (leaf_for u) [] nothing_held ws false []
command_fault program table u word ws e =
    let is_met : subcommand_met (names_for table) idle word ≡ Some u.name =
    met table word ∙ ap (option_map (λ u. u.name)) e in
    let found : usage_named table u.name ≡ Some u = ap (usage_named table) (name_is table word u e) ∙ e in
    rw (names_built program table)
    (above program table (names_for table) u (walk [] (names_for table) nothing_held (word ∷ ws)) ws _ (walk_command (names_for table) word u.name ws is_met) (faults_command program (names_for table) word u.name ws is_met) found)

-- ---- a word that names no command

bundle_fails : (flags : Text) (c : ℕ) (h : Held) → slice_get (chars flags) 0 ≡ Some c
    → flags_fault [] false (length flags) flags 0 h ≡ kind.UnknownArgument ∷ []
unfolding flags_fault
bundle_fails [] c h e = absurd (no_chars c e)
bundle_fails (x ∷ xs) c h e = rw e refl

other_turn : (program : Text) (names : Names) (l : Option (Text × Option Text)) (short : Option Text) (word : Text)
    → long_of word ≡ l → short_of word ≡ short → subcommand_met names idle word ≡ None → IsWord word
    → empty (turn_fault (top program) names (walk_from nothing_held) word) ≡ false
other_turn program names (Some (name, v)) short word lw sw other is = rw (other, is.not_dashes, lw) refl
other_turn program names None (Some flags) word lw sw other is =
    rw (other, is.not_dashes, lw, sw, bundle_fails flags (is.flagged flags sw).0 _ (is.flagged flags sw).1) refl
other_turn program names None None word lw sw other is = rw (other, is.not_dashes, lw, sw) refl

fails_first : (a b c : Kinds) → empty a ≡ false → empty (or_else (or_else a b) c) ≡ false
fails_first [] b c e = cc
fails_first (k ∷ ks) b c e = refl

other_fault : (program : Text) (table : List Usage) (word : Text) (ws : List Text) → usage_named table word ≡ None
    → IsWord word → empty (built_fault (whole program table) nothing_held (word ∷ ws)) ≡ false
unfolding walk_fault
other_fault program table word ws e is =
    rw (names_built program table)
    (fails_first (turn_fault (top program) (names_for table) (walk_from nothing_held) word) _ _
    (other_turn program (names_for table) (long_of word) (short_of word) word refl refl (met table word ∙ ap (option_map (λ u. u.name)) e) is))

-- ---- all words

sound_named : (table : List Usage) (word : Text) (u : Usage) → list_all is_sound table ≡ true
    → usage_named table word ≡ Some u → is_sound u ≡ true
sound_named [] word u sound e = cc
sound_named (v ∷ table) word u sound e =
    step (bytes_eq v.name word) (is_sound v) refl sound e (sound_named table word u)
  where
    step : (b c : Bool) → is_sound v ≡ c → (c && list_all is_sound table) ≡ true
        → cond b (Some v) (usage_named table word) ≡ Some u
        → (list_all is_sound table ≡ true → usage_named table word ≡ Some u → is_sound u ≡ true) → is_sound u ≡ true
    step b false here sound e rest = absurd (false≢true sound)
    step true true here sound e rest = subst (λ x. is_sound x ≡ true) (same_Some v u e) here
    step false true here sound e rest = rest sound e

use_is : (u : Usage) (ws : List Text) → is_sound u ≡ true → AreWords ws
    → empty (level_fault (leaf_for u) [] nothing_held ws false []) ≡ is_used ws u
use_is u ws sound are = level_reads u.name (args_for u) (sound_different u sound) ws are ∙ same (items_of ws)
  where
    same : (items : Items)
        → option_map_or (λ is. take_items (args_for u) is [] 1) items false ≡ option_map_or (is_use u) items false
    same None = refl
    same (Some is) = sound_use u sound is

tested : (program : Text) (table : List Usage) (word : Text) (ws : List Text) (o : Option Usage)
    → list_all is_sound table ≡ true → usage_named table word ≡ o → IsWord word → AreWords ws
    → empty (built_fault (whole program table) nothing_held (word ∷ ws)) ≡ option_map_or (is_used ws) o false
tested program table word ws None sound e is are = other_fault program table word ws e is
tested program table word ws (Some u) sound e is are =
    ap empty (command_fault program table u word ws e) ∙ use_is u ws (sound_named table word u sound e) are

-- clap accepts a list of words exactly if the table allows it
pub law : (program : Text) (table : List Usage) (words : List Text) → list_all is_sound table ≡ true
    → AreWords (drop 1 words) → empty (fault_of (app_for program table) words) ≡ is_words table words
unfolding clap_on_literals
law program table [] sound are = refl
law program table (first ∷ []) sound are = refl
law program table (first ∷ word ∷ ws) sound are =
    ap (λ a. empty (built_fault a nothing_held (word ∷ ws))) (whole_built program table)
    ∙ tested program table word ws (usage_named table word) sound refl are.0 are.1

-- ---- the values

-- what was found of a use: the name of the command, and the rows of its values
abbrev pub found_of_use : Usage → List Item → Text × List Row
found_of_use u items = (u.name, rows_for (values_in u.plains items))

entered_leaf : (program : Text) (table : List Usage) (u : Usage) (ws : List Text) (stop : Option (Text × List Text))
    → stop ≡ Some (u.name, ws) → usage_named table u.name ≡ Some u
    → entered (whole program table) stop ≡ Some (u.name, rows_after (leaf_for u).rules [] ws)
entered_leaf program table u ws stop e found = rw (e, leaf_found table u.name, found) refl

entered_use : (program : Text) (table : List Usage) (u : Usage) (word : Text) (ws : List Text)
    → usage_named table word ≡ Some u
    → entered (whole program table) (walk [] (names_of (whole program table)) nothing_held (word ∷ ws)).stopped
    ≡ Some (u.name, rows_after (leaf_for u).rules [] ws)
entered_use program table u word ws e =
    let is_met : subcommand_met (names_for table) idle word ≡ Some u.name =
    met table word ∙ ap (option_map (λ u. u.name)) e in
    let found : usage_named table u.name ≡ Some u = ap (usage_named table) (name_is table word u e) ∙ e in
    rw (names_built program table) (entered_leaf program table u ws _ (ap (λ (w : Walk). w.stopped) (walk_command (names_for table) word u.name ws is_met)) found)

pub values_law : (program : Text) (table : List Usage) (u : Usage) (first word : Text) (ws : List Text) (items : List Item)
    → list_all is_sound table ≡ true → AreWords ws → usage_named table word ≡ Some u → items_of ws ≡ Some items
    → is_use u items ≡ true
    → subcommand_of (app_for program table) (first ∷ word ∷ ws) ≡ Some (found_of_use u items)
values_law program table u first word ws items sound are e said used =
    let is = sound_named table word u sound e in
    ap (λ (a : App). entered a (walk [] (names_of a) nothing_held (word ∷ ws)).stopped) (whole_built program table)
    ∙ entered_use program table u word ws e
    ∙ ap (λ rows. Some (u.name, rows))
    (level_leaves u.name (args_for u) (sound_different u is) ws items are said (sound_use u is items ∙ used) ∙ ap rows_for (sound_values u is items used))

pub one_value : (name : Text) (values : List (Text × Text)) → one_of name (rows_for values) ≡ value_named name values
one_value name [] = refl
one_value name (g ∷ values) = step (bytes_eq g.0 name) refl (one_value name values)
  where
    step : (b : Bool) → bytes_eq g.0 name ≡ b → one_of name (rows_for values) ≡ value_named name values
        → one_of name (rows_for (g ∷ values)) ≡ value_named name (g ∷ values)
    step true e rest = rw e refl
    step false e rest = rw e rest
