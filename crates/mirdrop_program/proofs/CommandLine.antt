-- What `clap` answers to words, by the kinds of its refusals.
use Rattle.std.proofs.Common.{◌≡◌, true, false, refl, ap, List, [], ◌∷◌, Err, inl, inr}
use Rattle.std.specs.Prelude.{◌≢◌, IsSomeAnd, Option, Some, None}
use Rattle.clap.specs.Words.{HasKind, IsAmong, Kinds, Text, fault_of, is_simple, is_simple_and_free}
use Rattle.clap.specs.Values.{kind_of}
use Rattle.clap.specs.declared.error.Error.{Error}
use Rattle.clap.specs.declared.error.kind.ErrorKind.{ErrorKind}
use Rattle.clap.specs.declared.builder.range.ValueRange.{ValueRange}
use Rattle.clap.proofs.OnLiterals.{clap_on_literals}
use Rattle.mirdrop_program.specs.Reads.{Parses, Refuses}
use Rattle.mirdrop_program.specs.Words.{command_line, has_none}
use Rattle.mirdrop_program.specs.declared.request.WordsError.{WordsError}

pub is_a_simple_line : is_simple command_line ≡ true
unfolding clap_on_literals
is_a_simple_line = refl

pub is_a_free_line : is_simple_and_free command_line ≡ true
unfolding clap_on_literals
is_a_free_line = refl

pub none_is_taken : (kinds : Kinds) → kinds ≡ [] → has_none kinds ≡ true
none_is_taken kinds e = rw e refl

pub some_is_not_taken : (kinds : Kinds) (k : ErrorKind) → IsAmong k kinds → has_none kinds ≡ false
some_is_not_taken [] k among = absurd among
some_is_not_taken (x ∷ xs) k among = refl

pub refused_is_not_taken : (kinds : Kinds) (e : Error) → HasKind kinds e → kind_of e ≢ ErrorKind.OutOfMemory → has_none kinds ≡ false
refused_is_not_taken kinds e (inl memory) other = absurd (other memory)
refused_is_not_taken kinds e (inr among) other = some_is_not_taken kinds (kind_of e) among

pub given_range : (o : Option ValueRange) (r : ValueRange) → IsSomeAnd o (λ x. x ≡ r) → o ≡ Some r
given_range None r h = absurd h
given_range (Some x) r h = ap Some h

pub refused_parses : (words : List Text) (e : Error) (r : WordsError) → HasKind (fault_of command_line words) e → Refuses (kind_of e) r →
    Parses words (Err r)
refused_parses words e WordsError.Refused kinds other = refused_is_not_taken _ e kinds other
refused_parses words e WordsError.Memory kinds memory = tt
