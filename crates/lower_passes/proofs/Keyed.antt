-- Entries with keys and without.
use Rattle.std.proofs.Common.{◌≡◌, ◌∙◌, ◌==◌, ◌<◌, ℕ, zero, suc, Bool, true, false, List, [], ◌∷◌, get_or, length, Some, refl, sym, ap, if◌then◌else◌}
use Rattle.std.specs.Prelude.{slice_get, ◌||◌}
use Rattle.std.proofs.lemmas.Option.{none-some, same_Some}
use Rattle.std.proofs.lemmas.Bool.{false≢true, eq-eqb, ne_eqb, eqb-true}
use Rattle.std.specs.Prelude.{option_map}
use Rattle.std.proofs.lemmas.Option.{slice_get-map, slice_get-get_or}
use Rattle.mir_base.specs.declared.place_in_text.Key.{Key}
use Rattle.lower_code.specs.declared.code.Entry.{Entry}
use Rattle.src_meaning.specs.Scopes as scopes
use Rattle.lower_code.specs.View.{entry_of, keys_seen}
use Rattle.src_meaning.specs.Scopes.{without_key, without_keys}
use Rattle.lower_passes.specs.Scoped.{has_key}

eqb_turned : (a b : ℕ) (t : Bool) → (a == b) ≡ t → (b == a) ≡ t
eqb_turned a b true is = eq-eqb b a (sym (eqb-true a b is))
eqb_turned a b false is = ne_eqb b a (λ same. false≢true (sym is ∙ eq-eqb a b (sym same)))

if_false : (b : Bool) (x y : List scopes.Entry) → b ≡ false → y ≡ (if b then x else y)
if_false false x y is = refl
if_false true x y is = absurd (false≢true (sym is))

if_true : (b : Bool) (x y : List scopes.Entry) → b ≡ true → (if b then x else y) ≡ x
if_true true x y is = refl
if_true false x y is = absurd (false≢true is)

neither : (a b : Bool) → (a || b) ≡ false → (a ≡ false) × (b ≡ false)
neither false b is = (refl, is)
neither true b is = absurd (false≢true (sym is))

-- nothing goes where no entry has the key
pub none_goes : (key : ℕ) (es : List scopes.Entry) → has_key key es ≡ false → es ≡ without_key key es
none_goes key [] none = refl
none_goes key (e ∷ es) none =
    let parts = neither (e.key == key) (has_key key es) none in
    ap (λ (rest : List scopes.Entry). e ∷ rest) (none_goes key es parts.1)
    ∙ if_false (key == e.key) (without_key key es) (e ∷ without_key key es) (eqb_turned e.key key false parts.0)

-- an entry with one of the keys goes with them
one_later : (keys : List ℕ) (key : ℕ) (e : scopes.Entry) (es : List scopes.Entry) (b : Bool) → (key == e.key) ≡ b → without_keys keys (e ∷ without_key key es) ≡ without_keys keys (without_key key es) → without_keys keys (without_key key (e ∷ es)) ≡ without_keys keys (without_key key es)
one_later keys key e es true same more =
    ap (without_keys keys) (if_true (key == e.key) (without_key key es) (e ∷ without_key key es) same)
one_later keys key e es false other more =
    ap (without_keys keys) (sym (if_false (key == e.key) (without_key key es) (e ∷ without_key key es) other)) ∙ more

pub one_goes : (keys : List ℕ) (i : ℕ) (e : scopes.Entry) (es : List scopes.Entry) → slice_get keys i ≡ Some e.key → without_keys keys (e ∷ es) ≡ without_keys keys es
one_goes [] i e es is = absurd (none-some e.key is)
one_goes (key ∷ keys) zero e es is =
    ap (without_keys keys) (if_true (key == e.key) (without_key key es) (e ∷ without_key key es) (eq-eqb key e.key (same_Some key e.key is)))
one_goes (key ∷ keys) (suc i) e es is =
    one_later keys key e es (key == e.key) refl (one_goes keys i e (without_key key es) is)

-- the key at a place of a list
key_at : (keys : List Key) (i : ℕ) (d : Key) → i < length keys → slice_get (keys_seen keys) i ≡ Some (get_or keys i d).0
key_at keys i d less =
    slice_get-map (λ (k : Key). k.0) keys i ∙ ap (option_map (λ (k : Key). k.0)) (slice_get-get_or keys i d less)

pub one_stripped : (keys : List Key) (i : ℕ) (d : Key) (e : Entry) (es all : List scopes.Entry) → i < length keys → (get_or keys i d).0 ≡ e.key.0 → without_keys (keys_seen keys) (entry_of e ∷ es) ≡ all → without_keys (keys_seen keys) es ≡ all
one_stripped keys i d e es all less same is =
    sym (one_goes (keys_seen keys) i (entry_of e) es (key_at keys i d less ∙ ap (λ (k : ℕ). Some k) same)) ∙ is
