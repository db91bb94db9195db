-- The number that Rust reads of a text.
use Rattle.std.proofs.Common.{◌≡◌, ◌≤◌, ℕ, List, Some, None, Result, Ok, Err, Bool, true, false, refl, arith, cond}
use Rattle.std.specs.Result.{result_ok}
use Rattle.std.specs.Str.Parse.{ParsesUnsigned, digits_value, without_leading_plus}
use Rattle.clap.specs.ValueTests.{is_unsigned_in}
use Rattle.clap.specs.declared.builder.value_parser.ValueParser.TheVariants as vp
use Rattle.clap.proofs.ValueTestLemmas.{Accepts-accepts, accepts-Accepts}
use Rattle.command_words.specs.Words.{number_in}

pub number_read : {E : Type 0} (t : List ℕ) (r : Result ℕ E) → ParsesUnsigned 64 10 t r → result_ok r ≡ number_in t
number_read t (Ok v) parsed =
    let few : digits_value 10 (without_leading_plus t) ≤ 18446744073709551615 = omega (arith, parsed.0.1) in
    let passes : is_unsigned_in 0 18446744073709551615 t ≡ true =
    Accepts-accepts false (vp.Unsigned 0 18446744073709551615) t (parsed.0.0, parsed.0.1, omega arith, few) in
    rw (passes, parsed.1) refl
number_read t (Err e) parsed = by_test (is_unsigned_in 0 18446744073709551615 t) refl
  where
    by_test : (b : Bool) → is_unsigned_in 0 18446744073709551615 t ≡ b
        → None ≡ cond b (Some (digits_value 10 (without_leading_plus t))) None
    by_test true e =
        let accepted = accepts-Accepts false (vp.Unsigned 0 18446744073709551615) t e in
        absurd (parsed (accepted.0, accepted.1))
    by_test false e = refl
