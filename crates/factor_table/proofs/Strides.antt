-- How large the strides of a table are.
use Rattle.std.proofs.Common.{◌≡◌, ℕ, ◌-◌, ◌*◌, ◌^◌, ◌<◌, ◌≤◌, ap, arith}
use Rattle.factor_table.specs.declared.layout.Sizes.{Sizes}
use Rattle.factor_table.specs.declared.layout.Strides.{Strides}
use Rattle.factor_table.specs.KeyPlaces.{AreWithinLimits, AreStrides, IsEnd, ends, flags, end_number, flag_number, words_of_modulus, words_of}
use Rattle.factor_table.proofs.Digits.{product_le, digit_below}

-- the greatest strides, at rank 12, degree 10, 8 moduli and 512 classes
pub record AreLimited (s : Sizes) : Type 0 where
  pub ends_limited : ends s ≤ 130
  pub flags_limited : flags s ≤ 1690
  pub pairs_limited : flags s * ends s ≤ 219700
  pub class_edges_limited : s.classes * flags s ≤ 865280
  pub class_vertices_limited : s.classes * ends s ≤ 66560
  pub of_modulus_limited : words_of_modulus s ≤ 1156623
  pub all_limited : s.moduli * words_of_modulus s ≤ 9252984

pub limited : (s : Sizes) → AreWithinLimits s → AreLimited s
limited s l =
    let e : ends s ≤ 130 = product_le s.colours 13 s.degree 10 l.colours_limited l.degree_limited in
    let f : flags s ≤ 1690 = product_le s.colours 13 (ends s) 130 l.colours_limited e in
    let p : flags s * ends s ≤ 219700 = product_le (flags s) 1690 (ends s) 130 f e in
    let ce : s.classes * flags s ≤ 865280 = product_le s.classes 512 (flags s) 1690 l.classes_limited f in
    let cv : s.classes * ends s ≤ 66560 = product_le s.classes 512 (ends s) 130 l.classes_limited e in
    let colours = l.colours_limited in
    let w : words_of_modulus s ≤ 1156623 = omega arith in
    record {
      ends_limited = e;
      flags_limited = f;
      pairs_limited = p;
      class_edges_limited = ce;
      class_vertices_limited = cv;
      of_modulus_limited = w;
      all_limited = product_le s.moduli 8 (words_of_modulus s) 1156623 l.moduli_limited w;
    }

-- the table has fewer than 9,300,000 words
pub words_limited : (s : Sizes) → AreWithinLimits s → words_of s < 9300000
unfolding words_of
words_limited s l =
    let a = (limited s l).all_limited in let c = l.colours_limited in let m = l.moduli_limited in omega arith

pub small_product : (x y : ℕ) → x < 65536 → y < 65536 → x * y < 2 ^ 33
small_product x y h k =
    let a : x * y ≤ 65536 * 65536 = product_le x 65536 y 65536 (omega arith) (omega arith) in omega arith

pub end_below : (s : Sizes) (u a : ℕ) → IsEnd s u a → end_number s u a < ends s
end_below s u a e =
    let p = e.degree_positive in
    let w = e.degree_within in digit_below u (a - 1) s.colours s.degree e.colour_within (omega arith)

pub flag_below : (s : Sizes) (c u a : ℕ) → c < s.colours → IsEnd s u a → flag_number s c u a < flags s
flag_below s c u a lt e = digit_below c (end_number s u a) s.colours (ends s) lt (end_below s u a e)

-- the strides of all moduli together
pub strides_words : (s : Sizes) (strides : Strides) → AreStrides s strides
    → s.moduli * strides.words_of_modulus ≡ s.moduli * words_of_modulus s
strides_words s strides laid = ap (λ n. s.moduli * n) laid.words_of_modulus
