-- A well formed graph and one that was read are equal as compared where they have one listing, and the one that was read is well formed too.
use Rattle.std.proofs.Common.{◌≡◌, ℕ, zero, suc, ◌+◌, ◌^◌, ◌<◌, ◌≤◌, true, List, [], ◌∷◌, ◌++◌, map, take, drop, length, codes, Option, Some, None, nat_lt, slice_get, refl, ap, sym, subst, ◌∙◌, arith, ltb-true}
use Rattle.std.specs.Prelude.{option_map}
use Rattle.std.proofs.lemmas.List.{take-map}
use Rattle.std.proofs.lemmas.Option.{same_Some, none-some}
use Rattle.mir_ty.specs.declared.ty.TyId.{TyId}
use Rattle.mir_ty.specs.declared.def.Sig.{Sig}
use Rattle.mir_ty.specs.ItemTable.{ItemTable}
use Rattle.mir_ty.specs.Named.{sig_name}
use Rattle.cfg_graph.specs.declared.graph.Body.{Body}
use Rattle.cfg_graph.specs.declared.graph.Graph.{Graph}
use Rattle.listing_write.specs.Compared.{Written, AdtSeen, SigSeen, numbered, adt_seen, trait_seen, closure_seen, sig_seen, body_seen, IsListed, seen}
use Rattle.listing_write.specs.Lists.{line}
use Rattle.listing_write.specs.Listing.{listing}
use Rattle.listing_write.specs.Types.{type_text}
use Rattle.listing_write.proofs.Reading.Basics.{strip}
use Rattle.listing_write.proofs.Reading.Rows.{many}
use Rattle.listing_write.proofs.Reading.Bodies.{BodyRead, body_read_seen, body_read, bodies_read}
use Rattle.listing_write.proofs.Reading.Items.{adt_read, adts_read, trait_read, traits_read, impl_read, impls_read, closure_read, closures_read}
use Rattle.listing_write.proofs.Reading.Listed.{every_from_by, own_holds, adts_told, traits_told}
use Rattle.listing_write.proofs.Reading.Law.{the_end, at_bodies, at_closures, at_impls, at_traits, at_adts, in_rows, no_closure, no_impl, no_trait, no_adt, own_adt, own_trait, adts_are, traits_are, impls_are, closures_are, bodies_are, sig_from, whole, whole_numbered, whole_bodies, rows_alike}
use Rattle.mir_ty.specs.declared.adt.Adt.{Adt}
use Rattle.mir_ty.specs.declared.def.ClosureDef.{ClosureDef}
use Rattle.mir_ty.specs.declared.def.TraitDef.{TraitDef}
use Rattle.mir_ty.specs.Named.{adt_name, name_of_adt}
use Rattle.listing_write.specs.Types.{trait_name, name_of_trait}
use Rattle.cfg_graph.specs.WellFormed.Faults.{IsWellFormed}
use Rattle.cfg_graph.specs.WellFormed.LineFaults.{body_tests}
use Rattle.cfg_graph.specs.WellFormed.NameFaults.{stands_in_names}
use Rattle.cfg_graph.proofs.NoFaults.{broken-holds}
use Rattle.std.specs.List.{list_all}
use Rattle.mir_text.proofs.Alike.Enough.{enough, closures_of, count_of}
use Rattle.mir_text.proofs.Alike.Readable.{Readable, has_parts, names, good_adts as readable_adts, good_traits as readable_traits, good_closures as readable_closures, good_impls as readable_impls, good_bodies as readable_bodies}
use Rattle.mir_text.proofs.Alike.Rows.{adts_written, traits_written, closures_written, bodies_written, adts_look, traits_look, closures_look, bodies_look}
use Rattle.listing_write.proofs.Reading.Same.{Both, both_at, both_from, same_length}
use Rattle.listing_write.proofs.Reading.Settled.{settled}
use Rattle.mir_text.proofs.Alike.Written.{written_exists}
use Rattle.mir_text.specs.BodiesRead.{AreSigned, IsSigOf, IsResultOf}

-- the signature that locals tell
pub signed_at : (items : ItemTable) (sigs : List Sig) (bodies : List Body) → AreSigned items sigs bodies → (n : ℕ) (body : Body) → slice_get bodies n ≡ Some body → (sig : Sig) × (slice_get sigs n ≡ Some sig) × IsSigOf items body sig
signed_at items [] [] signed n body is = absurd (none-some body is)
signed_at items [] (b ∷ bodies) signed n body is = absurd signed
signed_at items (sig ∷ sigs) [] signed n body is = absurd signed
signed_at items (sig ∷ sigs) (b ∷ bodies) signed zero body is = (sig, refl, subst (λ (b : Body). IsSigOf items b sig) (same_Some b body is) signed.0)
signed_at items (sig ∷ sigs) (b ∷ bodies) signed (suc n) body is = signed_at items sigs bodies signed.1 n body is

pub behind_first : (x : TyId) (xs : List TyId) → drop 1 (x ∷ xs) ≡ xs
behind_first x [] = refl
behind_first x (y ∷ ys) = refl

sig_told : (items : ItemTable) (params : ℕ) (locals : List TyId) (sig : Sig) → 0 < length locals → sig.params ≡ take params (drop 1 locals) → IsResultOf items locals sig.result
    → sig_from sig.name (take (suc params) (map (type_text items) locals)) ≡ Some (sig_seen items sig)
sig_told items params [] sig some own answer = absurd (omega (arith, some))
sig_told items params (first ∷ others) sig some own answer =
    let same : take params (map (type_text items) others) ≡ map (type_text items) sig.params =
    take-map (type_text items) params others ∙ ap (λ (ids : List TyId). map (type_text items) (take params ids)) (sym (behind_first first others)) ∙ ap (map (type_text items)) (sym own) in
    λ i. Some (sig.name, same i, type_text items (sym answer i))

pub adt_names_same : (left right : ItemTable) → map (adt_seen left) left.adts ≡ map (adt_seen right) right.adts → (n : ℕ) → adt_name left n ≡ adt_name right n
adt_names_same left right h n = by (slice_get left.adts n) (slice_get right.adts n) (both_at (adt_seen left) (adt_seen right) left.adts right.adts h n)
  where
    by : (x y : Option Adt) → Both (adt_seen left) (adt_seen right) x y → name_of_adt x ≡ name_of_adt y
    by None None h = refl
    by (Some x) (Some y) h = ap (λ (s : AdtSeen). s.name) h
    by None (Some y) h = absurd h
    by (Some x) None h = absurd h

pub trait_names_same : (left right : ItemTable) → map (trait_seen left) left.traits ≡ map (trait_seen right) right.traits → (n : ℕ) → trait_name left n ≡ trait_name right n
trait_names_same left right h n = by (slice_get left.traits n) (slice_get right.traits n) (both_at (trait_seen left) (trait_seen right) left.traits right.traits h n)
  where
    by : (x y : Option TraitDef) → Both (trait_seen left) (trait_seen right) x y → name_of_trait x ≡ name_of_trait y
    by None None h = refl
    by (Some x) (Some y) h = ap (λ (s : List ℕ × List SigSeen). s.0) h
    by None (Some y) h = absurd h
    by (Some x) None h = absurd h

-- the rows of a graph that was read
module _ (right : Graph) (r : Readable right) (more : List ClosureDef) (much : 2 ^ 32 ≤ length more) where
  abbrev T : ItemTable
  T = right.items

  abbrev E : ItemTable
  E = enough T more

  pub adts_right : many adt_read (at_adts right) ≡ (map (adt_seen T) T.adts, at_traits right)
  adts_right =
      ap (λ (w : List ℕ). many adt_read (w ++ at_traits right)) (adts_written T more T.adts)
      ∙ adts_read E (names right r more much) T.adts (readable_adts right r more much) (at_traits right) (no_adt right)
      ∙ ap (λ (xs : List AdtSeen). (xs, at_traits right)) (sym (adts_look T more T.adts))

  pub traits_right : many trait_read (at_traits right) ≡ (map (trait_seen T) T.traits, at_impls right)
  traits_right =
      ap (λ (w : List ℕ). many trait_read (w ++ at_impls right)) (traits_written T more T.traits)
      ∙ traits_read E (names right r more much) T.traits (readable_traits right r more much) (at_impls right) (no_trait right)
      ∙ ap (λ (xs : List (List ℕ × List SigSeen)). (xs, at_impls right)) (sym (traits_look T more T.traits))

  pub closures_right : many closure_read (at_closures right) ≡ (map (closure_seen T) T.closures, at_bodies right)
  closures_right =
      ap (λ (w : List ℕ). many closure_read (w ++ at_bodies right)) (closures_written T more T.closures)
      ∙ closures_read E (names right r more much) T.closures (readable_closures right r more much) (at_bodies right) (no_closure right)
      ∙ ap (λ (xs : List (List Written × ℕ)). (xs, at_bodies right)) (sym (closures_look T more T.closures))

  -- where names tell numbers
  module _ (adt_no trait_no : List ℕ → ℕ)
      (adts_tell : (n : ℕ) → nat_lt n (length T.adts) ≡ true → (list_all stands_in_names (adt_name T n) ≡ true) × (adt_no (adt_name T n) ≡ n))
      (traits_tell : (n : ℕ) → nat_lt n (length T.traits) ≡ true → (list_all stands_in_names (trait_name T n) ≡ true) × (trait_no (trait_name T n) ≡ n)) where
    pub impls_right : many (impl_read adt_no trait_no) (at_impls right) ≡ (T.impls, at_closures right)
    impls_right =
        impls_read adt_no trait_no E T.impls (readable_impls right r more much adt_no trait_no adts_tell traits_tell) (at_closures right)
        (no_impl right adt_no trait_no)

    pub bodies_right : many (body_read adt_no trait_no) (at_bodies right) ≡ (numbered (body_read_seen T) 0 right.bodies, the_end right)
    bodies_right =
        ap (λ (w : List ℕ). many (body_read adt_no trait_no) (w ++ the_end right)) (bodies_written T more right.bodies)
        ∙ bodies_read adt_no trait_no E (names right r more much) adts_tell traits_tell right.bodies
        (readable_bodies right r more much adt_no trait_no adts_tell traits_tell) (the_end right) refl refl refl
        ∙ ap (λ (xs : List BodyRead). (xs, the_end right)) (sym (bodies_look T more right.bodies))

module _ (left right : Graph) (l : IsListed left) (r : Readable right) (one : listing left ≡ listing right) (more : List ClosureDef) (much : 2 ^ 32 ≤ length more) where
  abbrev L : ItemTable
  L = left.items

  abbrev R : ItemTable
  R = right.items

  -- structs, enums and traits
  top : at_adts left ≡ at_adts right
  top = same_Some (at_adts left) (at_adts right) (ap (strip (line (codes "mirdrop 1"))) (sym (in_rows left) ∙ one ∙ in_rows right))

  adts_too : (map (adt_seen L) L.adts ≡ map (adt_seen R) R.adts) × (at_traits left ≡ at_traits right)
  adts_too =
      rows_alike adt_read adt_read (at_adts left) (at_adts right) (map (adt_seen L) L.adts) (map (adt_seen R) R.adts) (at_traits left) (at_traits right) refl top (adts_are left l) (adts_right right r more much)

  traits_too : (map (trait_seen L) L.traits ≡ map (trait_seen R) R.traits) × (at_impls left ≡ at_impls right)
  traits_too =
      rows_alike trait_read trait_read (at_traits left) (at_traits right) (map (trait_seen L) L.traits) (map (trait_seen R) R.traits) (at_impls left) (at_impls right) refl adts_too.1
      (traits_are left l) (traits_right right r more much)

  adt_count : length L.adts ≡ length R.adts
  adt_count = same_length (adt_seen L) (adt_seen R) L.adts R.adts adts_too.0

  trait_count : length L.traits ≡ length R.traits
  trait_count = same_length (trait_seen L) (trait_seen R) L.traits R.traits traits_too.0

  adt_named_so : (n : ℕ) → adt_name L n ≡ adt_name R n
  adt_named_so = adt_names_same L R adts_too.0

  trait_named_so : (n : ℕ) → trait_name L n ≡ trait_name R n
  trait_named_so = trait_names_same L R traits_too.0

  -- so the names tell the same numbers
  adts_tell : (n : ℕ) → nat_lt n (length R.adts) ≡ true → (list_all stands_in_names (adt_name R n) ≡ true) × (own_adt left l (adt_name R n) ≡ n)
  adts_tell n h =
      subst (λ (name : List ℕ). (list_all stands_in_names name ≡ true) × (own_adt left l name ≡ n)) (adt_named_so n) (adts_told left l n (ap (nat_lt n) adt_count ∙ h))

  traits_tell : (n : ℕ) → nat_lt n (length R.traits) ≡ true → (list_all stands_in_names (trait_name R n) ≡ true) × (own_trait left l (trait_name R n) ≡ n)
  traits_tell n h =
      subst (λ (name : List ℕ). (list_all stands_in_names name ≡ true) × (own_trait left l name ≡ n)) (trait_named_so n) (traits_told left l n (ap (nat_lt n) trait_count ∙ h))

  -- impls, closures and bodies
  impls_too : (L.impls ≡ R.impls) × (at_closures left ≡ at_closures right)
  impls_too =
      rows_alike (impl_read (own_adt left l) (own_trait left l)) (impl_read (own_adt left l) (own_trait left l)) (at_impls left) (at_impls right) L.impls R.impls
      (at_closures left) (at_closures right) refl traits_too.1 (impls_are left l) (impls_right right r more much (own_adt left l) (own_trait left l) adts_tell traits_tell)

  closures_too : (map (closure_seen L) L.closures ≡ map (closure_seen R) R.closures) × (at_bodies left ≡ at_bodies right)
  closures_too =
      rows_alike closure_read closure_read (at_closures left) (at_closures right) (map (closure_seen L) L.closures) (map (closure_seen R) R.closures) (at_bodies left) (at_bodies right)
      refl impls_too.1 (closures_are left l) (closures_right right r more much)

  bodies_too : numbered (body_read_seen L) 0 left.bodies ≡ numbered (body_read_seen R) 0 right.bodies
  bodies_too =
      (rows_alike (body_read (own_adt left l) (own_trait left l)) (body_read (own_adt left l) (own_trait left l)) (at_bodies left) (at_bodies right)
      (numbered (body_read_seen L) 0 left.bodies) (numbered (body_read_seen R) 0 right.bodies) (the_end left) (the_end right) refl closures_too.1 (bodies_are left l) (bodies_right right r more much (own_adt left l) (own_trait left l) adts_tell traits_tell)).0

  -- each body that was read has a local, since the other one has
  some_locals : (n : ℕ) (body : Body) → slice_get right.bodies n ≡ Some body → 0 < length body.locals
  some_locals n body is =
      by (slice_get left.bodies n) refl
      (subst (λ (o : Option Body). Both (body_read_seen L (0 + n)) (body_read_seen R (0 + n)) (slice_get left.bodies n) o) is (both_from (body_read_seen L) (body_read_seen R) 0 left.bodies right.bodies bodies_too n))
    where
      by : (o : Option Body) → slice_get left.bodies n ≡ o → Both (body_read_seen L (0 + n)) (body_read_seen R (0 + n)) o (Some body) → 0 < length body.locals
      by None e h = absurd h
      by (Some other) e h =
          let tested = broken-holds (body_tests L (length left.bodies) n other) (own_holds left l n other e) 1 (2, nat_lt other.params (length other.locals)) refl in
          let some = ltb-true other.params (length other.locals) tested in
          let same = same_length (type_text L) (type_text R) other.locals body.locals (ap (λ (b : BodyRead). b.locals) h) in
          omega (arith, some, same)

  sig_right : (n : ℕ) (body : Body) → slice_get right.bodies n ≡ Some body → body_seen R n body ≡ whole (body_read_seen R n body)
  sig_right n body is =
      let (sig, at, told) = signed_at R R.bodies right.bodies r.signed n body is in
      let signature : option_map (sig_seen R) (slice_get R.bodies n) ≡ sig_from (sig_name (slice_get R.bodies n)) (take (suc body.params) (map (type_text R) body.locals)) =
      ap (option_map (sig_seen R)) at ∙ sym (sig_told R body.params body.locals sig (some_locals n body is) told.params told.answer)
      ∙ ap (λ (o : Option Sig). sig_from (sig_name o) (take (suc body.params) (map (type_text R) body.locals))) (sym at) in
      λ i. record { signature = signature i; params = body.params; locals = map (type_text R) body.locals; blocks = body.blocks }

  whole_right : numbered (body_seen R) 0 right.bodies ≡ map whole (numbered (body_read_seen R) 0 right.bodies)
  whole_right =
      whole_numbered right 0 right.bodies
      (every_from_by (λ n body. body_seen R n body ≡ whole (body_read_seen R n body)) 0 right.bodies
      (λ n body is. subst (λ m. body_seen R m body ≡ whole (body_read_seen R m body)) (let e : n ≡ 0 + n = omega arith in e) (sig_right n body is)))

  all_seen : seen left ≡ seen right
  all_seen =
      let bodies : numbered (body_seen L) 0 left.bodies ≡ numbered (body_seen R) 0 right.bodies = whole_bodies left l ∙ ap (map whole) bodies_too ∙ sym whole_right in
      λ i. record { adts = adts_too.0 i; traits = traits_too.0 i; impls = impls_too.0 i; closures = closures_too.0 i; bodies = bodies i }

  well_formed_so : IsWellFormed right
  well_formed_so =
      settled left right l r.items
      (record {
        table = written_exists left l R more r.types much (has_parts right r more much) (names right r more much) adt_count trait_count
            (same_length (closure_seen L) (closure_seen R) L.closures R.closures closures_too.0) adt_named_so trait_named_so;
        locals = r.locals;
      }) r.fits all_seen

pub enough_there : 2 ^ 32 ≤ length (closures_of (2 ^ 32))
enough_there = let count = count_of (2 ^ 32) in omega (arith, count)

pub one_seen : (left right : Graph) → IsListed left → Readable right → listing left ≡ listing right → seen left ≡ seen right
one_seen left right l r one = all_seen left right l r one (closures_of (2 ^ 32)) enough_there

pub well_formed_too : (left right : Graph) → IsListed left → Readable right → listing left ≡ listing right → IsWellFormed right
well_formed_too left right l r one = well_formed_so left right l r one (closures_of (2 ^ 32)) enough_there
