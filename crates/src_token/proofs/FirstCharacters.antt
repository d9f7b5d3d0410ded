-- The kind of piece that a character begins tells the character.
use Rattle.std.proofs.Common.{◌≡◌, ℕ, Bool, true, false, cond, refl, eqb}
use Rattle.std.specs.Prelude.{is_some}
use Rattle.std.specs.Char.{is_ascii_digit}
use Rattle.std.proofs.lemmas.Bool.{eqb-true}
use Rattle.unicode_ident.specs.Ident.{is_xid_start}
use Rattle.src_token.specs.declared.piece.Beginning.{Beginning}
use Rattle.src_token.specs.declared.piece.Beginning.TheVariants.{Blank, Digit, Quote, DoubleQuote, Slash, Sign, Letter, Other}
use Rattle.src_token.specs.Beginnings.{beginning_of, is_blank}
use Rattle.src_token.specs.Marks.{one_mark}

-- the kind, by the answers of the tests
abbrev kind : (blank digit quote double slash line sign letter : Bool) → Beginning
kind blank digit quote double slash line sign letter =
    cond blank Blank (cond digit Digit (cond quote Quote (cond double DoubleQuote (cond slash Slash (cond line Letter (cond sign Sign (cond letter Letter Other)))))))

kind_quote : (a b c d e f g h : Bool) → kind a b c d e f g h ≡ Quote → c ≡ true
kind_quote true b c d e f g h k = absurd (cc)
kind_quote false true c d e f g h k = absurd (cc)
kind_quote false false true d e f g h k = refl
kind_quote false false false true e f g h k = absurd (cc)
kind_quote false false false false true f g h k = absurd (cc)
kind_quote false false false false false true g h k = absurd (cc)
kind_quote false false false false false false true h k = absurd (cc)
kind_quote false false false false false false false true k = absurd (cc)
kind_quote false false false false false false false false k = absurd (cc)

kind_double : (a b c d e f g h : Bool) → kind a b c d e f g h ≡ DoubleQuote → d ≡ true
kind_double true b c d e f g h k = absurd (cc)
kind_double false true c d e f g h k = absurd (cc)
kind_double false false true d e f g h k = absurd (cc)
kind_double false false false true e f g h k = refl
kind_double false false false false true f g h k = absurd (cc)
kind_double false false false false false true g h k = absurd (cc)
kind_double false false false false false false true h k = absurd (cc)
kind_double false false false false false false false true k = absurd (cc)
kind_double false false false false false false false false k = absurd (cc)

kind_slash : (a b c d e f g h : Bool) → kind a b c d e f g h ≡ Slash → e ≡ true
kind_slash true b c d e f g h k = absurd (cc)
kind_slash false true c d e f g h k = absurd (cc)
kind_slash false false true d e f g h k = absurd (cc)
kind_slash false false false true e f g h k = absurd (cc)
kind_slash false false false false true f g h k = refl
kind_slash false false false false false true g h k = absurd (cc)
kind_slash false false false false false false true h k = absurd (cc)
kind_slash false false false false false false false true k = absurd (cc)
kind_slash false false false false false false false false k = absurd (cc)

kind_sign : (a b c d e f g h : Bool) → kind a b c d e f g h ≡ Sign → g ≡ true
kind_sign true b c d e f g h k = absurd (cc)
kind_sign false true c d e f g h k = absurd (cc)
kind_sign false false true d e f g h k = absurd (cc)
kind_sign false false false true e f g h k = absurd (cc)
kind_sign false false false false true f g h k = absurd (cc)
kind_sign false false false false false true g h k = absurd (cc)
kind_sign false false false false false false true h k = refl
kind_sign false false false false false false false true k = absurd (cc)
kind_sign false false false false false false false false k = absurd (cc)

module _ (c : ℕ) where
  pub quote_is : beginning_of c ≡ Quote → c ≡ 39
  quote_is h =
      eqb-true c 39 (kind_quote (is_blank c) (is_ascii_digit c) (eqb c 39) (eqb c 34) (eqb c 47) (eqb c 95) (is_some (one_mark c)) (is_xid_start c) h)

  pub double_quote_is : beginning_of c ≡ DoubleQuote → c ≡ 34
  double_quote_is h =
      eqb-true c 34 (kind_double (is_blank c) (is_ascii_digit c) (eqb c 39) (eqb c 34) (eqb c 47) (eqb c 95) (is_some (one_mark c)) (is_xid_start c) h)

  pub slash_is : beginning_of c ≡ Slash → c ≡ 47
  slash_is h =
      eqb-true c 47 (kind_slash (is_blank c) (is_ascii_digit c) (eqb c 39) (eqb c 34) (eqb c 47) (eqb c 95) (is_some (one_mark c)) (is_xid_start c) h)

  pub sign_is : beginning_of c ≡ Sign → is_some (one_mark c) ≡ true
  sign_is h = kind_sign (is_blank c) (is_ascii_digit c) (eqb c 39) (eqb c 34) (eqb c 47) (eqb c 95) (is_some (one_mark c)) (is_xid_start c) h
