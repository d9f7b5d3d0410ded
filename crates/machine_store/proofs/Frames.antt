-- The entries of the locals of a body, and the index of their places.
use Rattle.std.proofs.Common.{◌≡◌, ◌≢◌, ℕ, zero, suc, ◌==◌, ◌<◌, Bool, true, false, List, [], ◌∷◌, ◌++◌, length, Option, Some, None, slice_get, slice_set, refl, ap, sym, subst, ◌∙◌, arith, if◌then◌else◌}
use Rattle.std.proofs.lemmas.Bool.{true≢false}
use Rattle.std.proofs.lemmas.Bool.Decides.{Decides-eqb}
use Rattle.std.specs.Option.{option_map, option_map_or}
use Rattle.store_model.specs.declared.address.At.{At}
use Rattle.store_model.specs.declared.address.At.TheVariants.{Part, Inside}
use Rattle.store_model.specs.Values.Access.{replaced}
use Rattle.machine_store.specs.declared.frame.StoredLocal.{StoredLocal}
use Rattle.machine_store.specs.Frames.{place_of, place_from, place_in, entry_of, cells_of}
use Rattle.store_model.specs.declared.value.Value.{Value}
use Rattle.store_model.specs.Concrete.State.{cell, with_cell}
use Rattle.store_model.specs.Values.Datum.{Datum, Gone, datum_of}

abbrev holding : StoredLocal → Value → StoredLocal
holding entry value = record entry { cell = value }

-- a local has an entry at a place; to change what it holds there is to store into it
pub record EntryAt (key place : ℕ) (entries : List StoredLocal) : Type 0 where
  pub entry : StoredLocal
  pub within : place < length entries
  pub is : slice_get entries place ≡ Some entry
  pub found : entry_of key entries ≡ Some entry.cell
  pub stands : cell key (cells_of entries) ≡ datum_of entry.cell
  pub changed : (value : Value) → cells_of (slice_set entries place (holding entry value)) ≡ with_cell key (datum_of value) (cells_of entries)
  pub kept : (value : Value) (other : ℕ) → place_of other (slice_set entries place (holding entry value)) ≡ place_of other entries

first_entry : (key : ℕ) (entry : StoredLocal) (entries : List StoredLocal) → (key == entry.key) ≡ true → EntryAt key 0 (entry ∷ entries)
first_entry key entry entries e = record {
  entry = entry;
  within = omega arith;
  is = refl;
  found = rw e refl;
  stands = rw e refl;
  changed = λ value. rw e (ap (λ k. (k, datum_of value) ∷ cells_of entries) (sym ((Decides-eqb key entry.key).0 e)));
  kept = λ value other. refl;
}

later_entry : (key place : ℕ) (entry : StoredLocal) (entries : List StoredLocal) → (key == entry.key) ≡ false → EntryAt key place entries → EntryAt key (suc place) (entry ∷ entries)
later_entry key place entry entries e at = record {
  entry = at.entry;
  within = let h = at.within in omega arith;
  is = at.is;
  found = rw e at.found;
  stands = rw e at.stands;
  changed = λ value. rw e (ap (λ cells. (entry.key, datum_of entry.cell) ∷ cells) (at.changed value));
  kept = λ value other. ap (λ o. if other == entry.key then Some 0 else option_map suc o) (at.kept value other);
}

entry_after : (key place : ℕ) (entry : StoredLocal) (entries : List StoredLocal) → ((p : ℕ) → place_of key entries ≡ Some p → EntryAt key p entries) →
    (b : Bool) → (key == entry.key) ≡ b → (o : Option ℕ) → place_of key entries ≡ o → (if b then Some 0 else option_map suc o) ≡ Some place → EntryAt key place (entry ∷ entries)
entry_after key place entry entries ih true e o d h = subst (λ p. EntryAt key p (entry ∷ entries)) (let k : 0 ≡ place = cc in k) (first_entry key entry entries e)
entry_after key place entry entries ih false e None d h = absurd (cc)
entry_after key place entry entries ih false e (Some p) d h = subst (λ q. EntryAt key q (entry ∷ entries)) (let k : suc p ≡ place = cc in k) (later_entry key p entry entries e (ih p d))

pub entry_at : (key : ℕ) (entries : List StoredLocal) (place : ℕ) → place_of key entries ≡ Some place → EntryAt key place entries
entry_at key [] place h = absurd (cc)
entry_at key (entry ∷ entries) place h = entry_after key place entry entries (entry_at key entries) (key == entry.key) refl (place_of key entries) refl h

-- a local has no entry; to add one is to store into it
pub record NoEntry (key : ℕ) (entries : List StoredLocal) : Type 0 where
  pub missing : entry_of key entries ≡ None
  pub empty : cell key (cells_of entries) ≡ Gone
  pub added : (value : Value) → cells_of (entries ++ (record { key = key; cell = value }) ∷ []) ≡ with_cell key (datum_of value) (cells_of entries)
  pub last : (value : Value) → place_of key (entries ++ (record { key = key; cell = value }) ∷ []) ≡ Some (length entries)

no_entry_after : (key : ℕ) (entry : StoredLocal) (entries : List StoredLocal) → (place_of key entries ≡ None → NoEntry key entries) →
    (b : Bool) → (key == entry.key) ≡ b → (o : Option ℕ) → place_of key entries ≡ o → (if b then Some 0 else option_map suc o) ≡ None → NoEntry key (entry ∷ entries)
no_entry_after key entry entries ih true e o d h = absurd (cc)
no_entry_after key entry entries ih false e (Some p) d h = absurd (cc)
no_entry_after key entry entries ih false e None d h =
    let none = ih d in
    record {
      missing = rw e none.missing;
      empty = rw e none.empty;
      added = λ value. rw e (ap (λ cells. (entry.key, datum_of entry.cell) ∷ cells) (none.added value));
      last = λ value. rw e (ap (option_map suc) (none.last value));
    }

pub no_entry : (key : ℕ) (entries : List StoredLocal) → place_of key entries ≡ None → NoEntry key entries
no_entry key [] h = record { missing = refl; empty = refl; added = λ value. refl; last = λ value. rw ((Decides-eqb key key).1 refl) refl }
no_entry key (entry ∷ entries) h = no_entry_after key entry entries (no_entry key entries) (key == entry.key) refl (place_of key entries) refl h

different : (a b : ℕ) → a ≢ b → (a == b) ≡ false
different a b h = go (a == b) refl
  where
    go : (c : Bool) → (a == b) ≡ c → (a == b) ≡ false
    go true e = absurd (h ((Decides-eqb a b).0 e))
    go false e = e

-- an added entry is that of its local alone
pub others_kept : (entry : StoredLocal) (other : ℕ) (entries : List StoredLocal) → other ≢ entry.key → place_of other (entries ++ entry ∷ []) ≡ place_of other entries
others_kept entry other [] h = rw (different other entry.key h) refl
others_kept entry other (first ∷ entries) h = ap (λ o. if other == first.key then Some 0 else option_map suc o) (others_kept entry other entries h)

set_there : {A : Type 0} (list : List A) (n : ℕ) (value : A) → n < length list → slice_get (slice_set list n value) n ≡ Some value
set_there [] n value h = absurd (let never : ⊥ = omega arith in never)
set_there (first ∷ list) zero value h = refl
set_there (first ∷ list) (suc n) value h = set_there list n value (omega arith)

set_elsewhere : {A : Type 0} (list : List A) (n m : ℕ) (value : A) → (m == n) ≡ false → slice_get (slice_set list n value) m ≡ slice_get list m
set_elsewhere [] n m value h = refl
set_elsewhere (first ∷ list) zero zero value h = absurd (true≢false (sym ((Decides-eqb 0 0).1 refl) ∙ h))
set_elsewhere (first ∷ list) zero (suc m) value h = refl
set_elsewhere (first ∷ list) (suc n) zero value h = refl
set_elsewhere (first ∷ list) (suc n) (suc m) value h =
    set_elsewhere list n m value (different m n (λ e. true≢false (sym ((Decides-eqb (suc m) (suc n)).1 (ap suc e)) ∙ h)))

-- the index with one place more is that of the entries with one entry more
pub index_added : (index : List ℕ) (entries : List StoredLocal) (entry : StoredLocal) → ((key : ℕ) → place_in index key ≡ place_of key entries) → entry.key < length index →
    place_of entry.key entries ≡ None → (key : ℕ) → place_in (slice_set index entry.key (suc (length entries))) key ≡ place_of key (entries ++ entry ∷ [])
index_added index entries entry indexed wide none key = go (key == entry.key) refl
  where
    go : (b : Bool) → (key == entry.key) ≡ b → place_in (slice_set index entry.key (suc (length entries))) key ≡ place_of key (entries ++ entry ∷ [])
    go true e =
        let same : key ≡ entry.key = (Decides-eqb key entry.key).0 e in
        rw same (ap place_from (set_there index entry.key (suc (length entries)) wide) ∙ sym ((no_entry entry.key entries none).last entry.cell))
    go false e =
        ap place_from (set_elsewhere index entry.key key (suc (length entries)) e) ∙ indexed key
        ∙ sym (others_kept entry key entries (λ d. true≢false (sym ((Decides-eqb key entry.key).1 d) ∙ e)))

-- The same, of what was read at the place.

same_entry : (place : ℕ) (entries : List StoredLocal) (one other : StoredLocal) → slice_get entries place ≡ Some one → slice_get entries place ≡ Some other → one ≡ other
same_entry place entries one other e h = cc

module _ (key place : ℕ) (entries : List StoredLocal) (entry : StoredLocal) (h : place_of key entries ≡ Some place) (is : slice_get entries place ≡ Some entry) where
  pub read_found : entry_of key entries ≡ Some entry.cell
  read_found = let at = entry_at key entries place h in at.found ∙ ap (λ e. Some e.cell) (same_entry place entries at.entry entry at.is is)

  pub read_stands : cell key (cells_of entries) ≡ datum_of entry.cell
  read_stands = let at = entry_at key entries place h in at.stands ∙ ap (λ e. datum_of e.cell) (same_entry place entries at.entry entry at.is is)

  pub read_changed : (value : Value) → cells_of (slice_set entries place (record { key = entry.key; cell = value })) ≡ with_cell key (datum_of value) (cells_of entries)
  read_changed value =
      let at = entry_at key entries place h in
      ap (λ e. cells_of (slice_set entries place (holding e value))) (sym (same_entry place entries at.entry entry at.is is)) ∙ at.changed value

  pub read_kept : (value : Value) (other : ℕ) → place_of other (slice_set entries place (record { key = entry.key; cell = value })) ≡ place_of other entries
  read_kept value other =
      let at = entry_at key entries place h in
      ap (λ e. place_of other (slice_set entries place (holding e value))) (sym (same_entry place entries at.entry entry at.is is)) ∙ at.kept value other

pub within_entries : (key place : ℕ) (entries : List StoredLocal) → place_of key entries ≡ Some place → place < length entries
within_entries key place entries h = (entry_at key entries place h).within

-- to add an entry of a local that has none is to store into it
pub store_added : (frame : ℕ × List StoredLocal) (key : ℕ) (value : Value) (stored : Datum → Datum) → place_of key frame.1 ≡ None → datum_of value ≡ stored Gone →
    (after : ℕ × List StoredLocal) → after ≡ (frame.0, frame.1 ++ (record { key = key; cell = value }) ∷ []) →
    cells_of after.1 ≡ with_cell key (stored (cell key (cells_of frame.1))) (cells_of frame.1)
store_added frame key value stored none is after e =
    let no = no_entry key frame.1 none in
    ap (λ f. cells_of f.1) e ∙ no.added value ∙ ap (λ d. with_cell key d (cells_of frame.1)) (is ∙ ap stored (sym no.empty))

pub nothing_stays : (place : List At) → replaced place Gone Gone ≡ Gone
nothing_stays [] = refl
nothing_stays (Part n ∷ place) = refl
nothing_stays (Inside ∷ place) = refl

-- what a local holds, by its entry
pub cell_by_entry : (key : ℕ) (entries : List StoredLocal) → cell key (cells_of entries) ≡ option_map_or datum_of (entry_of key entries) Gone
cell_by_entry key [] = refl
cell_by_entry key (entry ∷ entries) = go (key == entry.key) (cell_by_entry key entries)
  where
    go : (b : Bool) → cell key (cells_of entries) ≡ option_map_or datum_of (entry_of key entries) Gone →
        (if b then datum_of entry.cell else cell key (cells_of entries)) ≡ option_map_or datum_of (if b then Some entry.cell else entry_of key entries) Gone
    go true h = refl
    go false h = h
