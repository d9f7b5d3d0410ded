-- One turn of the search: what it keeps after a run that waited was taken up.
use Rattle.std.proofs.Common.{◌≡◌, ◌≢◌, ◌⊎◌, inl, inr, ℕ, zero, suc, ◌+◌, ◌<◌, ◌≤◌, Bool, true, false, ◌||◌, List, [], ◌∷◌, ◌++◌, length, replicate, Option, Some, None, slice_get, Contains, refl, sym, ap, subst, ◌∙◌, arith}
use Rattle.std.specs.Prelude.{slice_index_or, slice_set, sum_by}
use Rattle.std.proofs.lemmas.Bool.{false≢true, cases_eq, cases_lt}
use Rattle.std.proofs.lemmas.Option.{none-some, slice_get_within}
use Rattle.std.proofs.lemmas.List.{get_or-set_same, get_or-set_other, get_or-replicate, length-replicate, length-set, set-get_or, length-append}
use Rattle.std.proofs.lemmas.List.Sums.{sum_by-set}
use Rattle.std.proofs.lemmas.List.Elements.{Contains-append_left, Contains-append_right, Contains-append_cases}
use Rattle.std.proofs.Math.ListN.{get_or-eq_default}
use Rattle.mir_ty.proofs.ListLemmas.{slice_get-push_cases}
use Rattle.bit_rows.specs.Words.{union}
use Rattle.init_flow.specs.Carried.{Bits}
use Rattle.init_flow.specs.WorkList.{off, is_off}
use Rattle.init_flow.proofs.Rows.{union-bit, union-length, fewer, fewer-than}
use Rattle.move_errors.specs.Runs.{Problem, Trip, Leads, beginning, step, met, optional, index_of, stage_number}
use Rattle.move_errors.specs.Searching.{bit, Own, pushed, chosen, Settled, Visited}
use Rattle.move_errors.specs.Stands.{Stands, Seen, Logged, IsFrom, source, trip_of, waiting_of, item_from, chosen_items, pushed_items}
use Rattle.move_errors.specs.declared.point.Onward.{Onward}
use Rattle.move_errors.specs.declared.point.Point.{Point}
use Rattle.move_errors.specs.declared.point.Stage.{Stage}
use Rattle.move_errors.specs.declared.search.Visit.{Visit}
use Rattle.move_errors.specs.declared.search.Waiting.{Waiting}
use Rattle.move_errors.specs.declared.search.Search.{Search}
use Rattle.move_errors.proofs.Sorted.{here, there, none-in, first-or}
use Rattle.move_errors.proofs.Visiting.{passed-over, goes-further, begun}

-- Points by their numbers.

pub stage-small : (s : Stage) → stage_number s < 4
stage-small Stage.Entry = omega arith
stage-small Stage.Inside = omega arith
stage-small (Stage.Leaving true) = omega arith
stage-small (Stage.Leaving false) = omega arith

stage-one : (a b : Stage) → stage_number a ≡ stage_number b → a ≡ b
stage-one Stage.Entry Stage.Entry e = refl
stage-one Stage.Entry Stage.Inside e = absurd (omega (e, arith))
stage-one Stage.Entry (Stage.Leaving true) e = absurd (omega (e, arith))
stage-one Stage.Entry (Stage.Leaving false) e = absurd (omega (e, arith))
stage-one Stage.Inside Stage.Entry e = absurd (omega (e, arith))
stage-one Stage.Inside Stage.Inside e = refl
stage-one Stage.Inside (Stage.Leaving true) e = absurd (omega (e, arith))
stage-one Stage.Inside (Stage.Leaving false) e = absurd (omega (e, arith))
stage-one (Stage.Leaving true) Stage.Entry e = absurd (omega (e, arith))
stage-one (Stage.Leaving true) Stage.Inside e = absurd (omega (e, arith))
stage-one (Stage.Leaving true) (Stage.Leaving true) e = refl
stage-one (Stage.Leaving true) (Stage.Leaving false) e = absurd (omega (e, arith))
stage-one (Stage.Leaving false) Stage.Entry e = absurd (omega (e, arith))
stage-one (Stage.Leaving false) Stage.Inside e = absurd (omega (e, arith))
stage-one (Stage.Leaving false) (Stage.Leaving true) e = absurd (omega (e, arith))
stage-one (Stage.Leaving false) (Stage.Leaving false) e = refl

point-one : (a b : Point) → index_of a ≡ index_of b → a ≡ b
point-one a b e =
    let k = stage-small a.stage in
    let l = stage-small b.stage in
    let block : a.block ≡ b.block = omega (e, k, l, arith) in
    let stage : a.stage ≡ b.stage = stage-one a.stage b.stage (omega (e, k, l, block, arith)) in
    λ i. record { block = block i; stage = stage i }

-- Lists that grow by one.

pub last-or : {X : Type 0} (xs : List X) (x y : X) → Contains (xs ++ x ∷ []) y → Contains xs y ⊎ (x ≡ y)
last-or xs x y has = elim (Contains-append_cases xs (x ∷ []) y has) [
  | inl early ↦ inl early
  | inr late ↦ elim (first-or y x [] late) [ inl same ↦ inr same | inr stop ↦ absurd (none-in y stop) ]
]

pub last-in : {X : Type 0} (xs : List X) (x : X) → Contains (xs ++ x ∷ []) x
last-in xs x = Contains-append_right xs (x ∷ []) x (here x [])

get-early : {X : Type 0} (xs : List X) (x d : X) (n : ℕ) → n < length xs → slice_index_or (xs ++ x ∷ []) n d ≡ slice_index_or xs n d
get-early [] x d n within = absurd (omega (within, arith))
get-early (y ∷ ys) x d zero within = refl
get-early (y ∷ ys) x d (suc n) within = get-early ys x d n (omega (within, arith))

pub get-last : {X : Type 0} (xs : List X) (x d : X) → slice_index_or (xs ++ x ∷ []) (length xs) d ≡ x
get-last [] x d = refl
get-last (y ∷ ys) x d = get-last ys x d

module _ (f : Problem) (law : Own f) where
  source-early : (done : List Trip) (t : Trip) (from : Option ℕ) → IsFrom f from (length done) → source f (done ++ t ∷ []) from ≡ source f done from
  source-early done t None within = refl
  source-early done t (Some n) within = get-early done t (beginning f) n within

  trip-early : (done : List Trip) (t : Trip) (visit : Visit) (row : Bits) → IsFrom f visit.from (length done) → trip_of f (done ++ t ∷ []) visit row ≡ trip_of f done visit row
  trip-early done t visit row within =
      ap (λ (z : Trip). record { path = z.path ++ met visit.at; given = z.given ++ optional visit.choice; at = visit.at; row = row }) (source-early done t visit.from within)

  waiting-early : (done : List Trip) (t : Trip) (items : List Waiting) → ((item : Waiting) → Contains items item → IsFrom f item.visit.from (length done))
      → waiting_of f (done ++ t ∷ []) items ≡ waiting_of f done items
  waiting-early done t [] from = refl
  waiting-early done t (item ∷ items) from =
      λ i. trip-early done t item.visit item.row (from item (here item items)) i
      ∷ waiting-early done t items (λ x has. from x (there x item items has)) i

  trip-new : (done : List Trip) (t : Trip) (row : Bits) (choice : Option Bool) (to : Point) (n : ℕ) → n ≡ length done → row ≡ f.pass t.at t.row
      → trip_of f (done ++ t ∷ []) (item_from n row choice to).visit row ≡ step f t choice to
  trip-new done t row choice to n last is =
      ap (λ (k : ℕ). trip_of f (done ++ t ∷ []) (record { at = to; from = Some k; choice = choice }) row) last
      ∙ ap (λ (z : Trip). record { path = z.path ++ met to; given = z.given ++ optional choice; at = to; row = row }) (get-last done t (beginning f))
      ∙ ap (λ (r : Bits). record { path = t.path ++ met to; given = t.given ++ optional choice; at = to; row = r }) is

  waiting-append : (done : List Trip) (xs ys : List Waiting) → waiting_of f done (xs ++ ys) ≡ waiting_of f done xs ++ waiting_of f done ys
  waiting-append done [] ys = refl
  waiting-append done (x ∷ xs) ys = ap (λ z. trip_of f done x.visit x.row ∷ z) (waiting-append done xs ys)

  waiting-chosen : (done : List Trip) (t : Trip) (row : Bits) (o : Option Point) (choice : Bool) (n : ℕ) → n ≡ length done → row ≡ f.pass t.at t.row
      → waiting_of f (done ++ t ∷ []) (chosen_items n row o choice) ≡ chosen f t o choice
  waiting-chosen done t row None choice n last is = refl
  waiting-chosen done t row (Some to) choice n last is = ap (λ (z : Trip). z ∷ []) (trip-new done t row (Some choice) to n last is)

  -- what waits where a run went on
  waiting-pushed : (done : List Trip) (t : Trip) (row : Bits) (o : Onward) (items : List Waiting) (n : ℕ) → n ≡ length done → row ≡ f.pass t.at t.row
      → ((item : Waiting) → Contains items item → IsFrom f item.visit.from (length done))
      → waiting_of f (done ++ t ∷ []) (pushed_items o n row items) ≡ pushed f o t (waiting_of f done items)
  waiting-pushed done t row Onward.Nowhere items n last is from = waiting-early done t items from
  waiting-pushed done t row (Onward.Silent to) items n last is from = λ i. trip-new done t row None to n last is i ∷ waiting-early done t items from i
  waiting-pushed done t row (Onward.Choices a b) items n last is from =
      waiting-append (done ++ t ∷ []) items (chosen_items n row a false ++ chosen_items n row b true)
      ∙ (λ i. waiting-early done t items from i ++ (waiting-append (done ++ t ∷ []) (chosen_items n row a false) (chosen_items n row b true)
      ∙ (λ j. waiting-chosen done t row a false n last is j ++ waiting-chosen done t row b true n last is j)) i)

  in-items : (o : Onward) (n : ℕ) (row : Bits) (items : List Waiting) (x : Waiting) → Contains (pushed_items o n row items) x
      → Contains items x ⊎ ((choice : Option Bool) × (to : Point) × Leads o choice to × (item_from n row choice to ≡ x))
  in-items Onward.Nowhere n row items x has = inl has
  in-items (Onward.Silent to) n row items x has = elim (first-or x (item_from n row None to) items has) [
    | inl same ↦ inr (None, to, (refl, refl), same)
    | inr later ↦ inl later
  ]
  in-items (Onward.Choices a b) n row items x has = elim (Contains-append_cases items (chosen_items n row a false ++ chosen_items n row b true) x has) [
    | inl early ↦ inl early
    | inr late ↦ elim (Contains-append_cases (chosen_items n row a false) (chosen_items n row b true) x late) [
      | inl none ↦ (let it = in-chosen a false none in inr (Some false, it.0, inl (refl, it.1), it.2))
      | inr one ↦ (let it = in-chosen b true one in inr (Some true, it.0, inr (refl, it.1), it.2))
    ]
  ]
    where
      in-chosen : (o : Option Point) (c : Bool) → Contains (chosen_items n row o c) x → (to : Point) × (o ≡ Some to) × (item_from n row (Some c) to ≡ x)
      in-chosen None c has = absurd (none-in x has)
      in-chosen (Some to) c has = elim (first-or x (item_from n row (Some c) to) [] has) [ inl same ↦ (to, refl, same) | inr stop ↦ absurd (none-in x stop) ]

  -- What was brought.

  seen-more : (seen : List Bits) (reached : List Bool) (done : List Trip) (t : Trip) → Seen f seen reached done → index_of t.at < f.points → length t.row ≡ f.width
      → Seen f (slice_set seen (index_of t.at) (union t.row (slice_index_or seen (index_of t.at) []))) (slice_set reached (index_of t.at) true) (done ++ t ∷ [])
  seen-more seen reached done t s within long = record {
    seen_are = length-set seen n row ∙ s.seen_are;
    reached_are = length-set reached n true ∙ s.reached_are;
    widths = λ k below. elim (cases_eq k n) [
      | inl same ↦ ap (λ (z : ℕ). length (slice_index_or (slice_set seen n row) z [])) same ∙ ap length (get_or-set_same seen n row [] inside) ∙ union-length t.row old (long ∙ sym (s.widths n within)) ∙ long
      | inr other ↦ ap length (get_or-set_other seen n k row [] other) ∙ s.widths k below
    ];
    flags = λ at on. elim (cases_eq (index_of at) n) [
      | inl same ↦ (t, last-in done t, point-one t.at at (sym same))
      | inr other ↦ early at (s.flags at (sym (get_or-set_other reached n (index_of at) true false other) ∙ on))
    ];
    bits = λ at i on. elim (cases_eq (index_of at) n) [
      | inl same ↦ here-bit at i same (ap (λ (z : ℕ). bit (slice_index_or (slice_set seen n row) z []) i) (sym same) ∙ on)
      | inr other ↦ (let it = s.bits at i (ap (λ (z : Bits). bit z i) (sym (get_or-set_other seen n (index_of at) row [] other)) ∙ on) in
          (it.0, Contains-append_left done (t ∷ []) it.0 it.1, it.2, it.3))
    ];
  }
    where
      n : ℕ
      n = index_of t.at

      old : Bits
      old = slice_index_or seen (index_of t.at) []

      row : Bits
      row = union t.row (slice_index_or seen (index_of t.at) [])

      inside : index_of t.at < length seen
      inside = let k = s.seen_are in omega (k, within, arith)

      early : (at : Point) → (x : Trip) × Contains done x × (x.at ≡ at) → (x : Trip) × Contains (done ++ t ∷ []) x × (x.at ≡ at)
      early at it = (it.0, Contains-append_left done (t ∷ []) it.0 it.1, it.2)

      here-bit : (at : Point) (i : ℕ) → index_of at ≡ index_of t.at → bit (slice_index_or (slice_set seen (index_of t.at) (union t.row (slice_index_or seen (index_of t.at) []))) (index_of t.at) []) i ≡ true
          → (x : Trip) × Contains (done ++ t ∷ []) x × (x.at ≡ at) × (bit x.row i ≡ true)
      here-bit at i same on =
          either_true (bit t.row i) refl
          (sym (union-bit t.row (slice_index_or seen (index_of t.at) []) i (long ∙ sym (s.widths (index_of t.at) within)))
          ∙ ap (λ (z : Bits). bit z i) (sym (get_or-set_same seen (index_of t.at) (union t.row (slice_index_or seen (index_of t.at) [])) [] inside)) ∙ on)
        where
          either_true : (a : Bool) → bit t.row i ≡ a → (a || bit (slice_index_or seen (index_of t.at) []) i) ≡ true → (x : Trip) × Contains (done ++ t ∷ []) x × (x.at ≡ at) × (bit x.row i ≡ true)
          either_true true e h = (t, last-in done t, point-one t.at at (sym same), e)
          either_true false e h =
              let it = s.bits at i (ap (λ (z : ℕ). bit (slice_index_or seen z []) i) same ∙ h) in
              (it.0, Contains-append_left done (t ∷ []) it.0 it.1, it.2, it.3)

  -- where a run brought nothing, it is settled
  settled-old : (seen : List Bits) (reached : List Bool) (done : List Trip) (t : Trip) (ts : List Trip) → Seen f seen reached done → Visited f done (t ∷ ts) → index_of t.at < f.points → length t.row ≡ f.width
      → union t.row (slice_index_or seen (index_of t.at) []) ≡ slice_index_or seen (index_of t.at) [] → slice_index_or reached (index_of t.at) false ≡ true → Settled f done t
  settled-old seen reached done t ts s v within long same flag = record {
    reached = (let it = s.flags t.at flag in record { by = it.0; has = it.1; there = it.2; less = (v.earlier it.0 it.1).0 });
    brought = λ i on. (let it = s.bits t.at i (sym (ap (λ (z : Bits). bit z i) same) ∙ union-bit t.row (slice_index_or seen (index_of t.at) []) i (long ∙ sym (s.widths (index_of t.at) within)) ∙ or-first (bit t.row i) (bit (slice_index_or seen (index_of t.at) []) i) on) in
        record { by = it.0; has = it.1; there = it.2; less = (v.earlier it.0 it.1).0; on = it.3 });
  }
    where
      or-first : (a b : Bool) → a ≡ true → (a || b) ≡ true
      or-first true b h = refl
      or-first false b h = absurd (false≢true h)

  pub logged-more : (visits : List Visit) (done : List Trip) (visit : Visit) (row : Bits) → Logged f visits done → IsFrom f visit.from (length done)
      → Logged f (visits ++ visit ∷ []) (done ++ trip_of f done visit row ∷ [])
  logged-more visits done visit row l within = record {
    long = length-append visits (visit ∷ []) ∙ ap (λ (n : ℕ). n + 1) l.long ∙ sym (length-append done (trip_of f done visit row ∷ []));
    froms = λ n v at. elim (slice_get-push_cases visits visit n v at) [
      | inl early ↦ l.froms n v early
      | inr last ↦ subst (λ (z : Visit). IsFrom f z.from n) last.1 (subst (λ (k : ℕ). IsFrom f visit.from k) (sym l.long ∙ sym last.0) within)
    ];
    each = λ n v at. elim (slice_get-push_cases visits visit n v at) [
      | inl early ↦ (let below = slice_get_within visits n v early in
          old n v early (let k = l.long in omega (below, k, arith)))
      | inr last ↦ new n v (last.0 ∙ l.long) last.1
    ];
  }
    where
      all : List Trip
      all = done ++ trip_of f done visit row ∷ []

      from-more : (from : Option ℕ) (n m : ℕ) → IsFrom f from n → n ≤ m → IsFrom f from m
      from-more None n m h le = h
      from-more (Some k) n m h le = omega (h, le, arith)

      old : (n : ℕ) (v : Visit) → slice_get visits n ≡ Some v → n < length done
          → slice_index_or (done ++ trip_of f done visit row ∷ []) n (beginning f) ≡ trip_of f (done ++ trip_of f done visit row ∷ []) v (slice_index_or (done ++ trip_of f done visit row ∷ []) n (beginning f)).row
      old n v at below =
          let same = get-early done (trip_of f done visit row) (beginning f) n below in
          same ∙ l.each n v at ∙ ap (λ (z : Trip). trip_of f done v z.row) (sym same)
          ∙ sym (trip-early done (trip_of f done visit row) v (slice_index_or (done ++ trip_of f done visit row ∷ []) n (beginning f)).row (from-more v.from n (length done) (l.froms n v at) (omega (below, arith))))

      new : (n : ℕ) (v : Visit) → n ≡ length done → visit ≡ v
          → slice_index_or (done ++ trip_of f done visit row ∷ []) n (beginning f) ≡ trip_of f (done ++ trip_of f done visit row ∷ []) v (slice_index_or (done ++ trip_of f done visit row ∷ []) n (beginning f)).row
      new n v last is =
          let same : slice_index_or (done ++ trip_of f done visit row ∷ []) n (beginning f) ≡ trip_of f done visit row =
          ap (λ (k : ℕ). slice_index_or (done ++ trip_of f done visit row ∷ []) k (beginning f)) last ∙ get-last done (trip_of f done visit row) (beginning f) in
          same ∙ sym (trip-early done (trip_of f done visit row) visit row within)
          ∙ ap (λ (z : Visit). trip_of f (done ++ trip_of f done visit row ∷ []) z row) is
          ∙ ap (λ (z : Trip). trip_of f (done ++ trip_of f done visit row ∷ []) v z.row) (sym same)

  -- The turns.

  abbrev row_at : Search → ℕ → Bits
  row_at s n = slice_index_or s.seen n []

  pub brings-nothing : (old new : Search) (item : Waiting) → Stands f old (item ∷ old.queue.items)
      → new.seen ≡ slice_set old.seen (index_of item.visit.at) (union item.row (row_at old (index_of item.visit.at)))
      → new.reached ≡ slice_set old.reached (index_of item.visit.at) true → new.visits ≡ old.visits → new.queue.items ≡ old.queue.items
      → union item.row (row_at old (index_of item.visit.at)) ≡ row_at old (index_of item.visit.at) → slice_index_or old.reached (index_of item.visit.at) false ≡ true
      → Stands f new new.queue.items
  brings-nothing old new item s seen reached visits queue same flag =
      subst (Stands f new) (sym queue) (record {
        done = s.done;
        logged = subst (λ (z : List Visit). Logged f z s.done) (sym visits) s.logged;
        from_done = λ x has. s.from_done x (there x item old.queue.items has);
        seen = subst (λ (z : List Bits). Seen f z new.reached s.done) (sym seen_is) (subst (λ (z : List Bool). Seen f old.seen z s.done) (sym reached_is) s.seen);
        visited = passed-over f law s.done t (waiting_of f s.done old.queue.items) s.visited
            (settled-old old.seen old.reached s.done t (waiting_of f s.done old.queue.items) s.seen s.visited (s.within item (here item old.queue.items)) (s.widths item (here item old.queue.items)) same flag);
        widths = λ x has. s.widths x (there x item old.queue.items has);
        within = λ x has. s.within x (there x item old.queue.items has);
      })
    where
      t : Trip
      t = trip_of f s.done item.visit item.row

      seen_is : new.seen ≡ old.seen
      seen_is = seen ∙ ap (slice_set old.seen (index_of item.visit.at)) same ∙ set-get_or old.seen (index_of item.visit.at) []

      reached_is : new.reached ≡ old.reached
      reached_is = reached ∙ ap (slice_set old.reached (index_of item.visit.at)) (sym flag) ∙ set-get_or old.reached (index_of item.visit.at) false

  pub goes-on : (old new : Search) (item : Waiting) (row : Bits) (n : ℕ) → Stands f old (item ∷ old.queue.items)
      → ((choice : Option Bool) (to : Point) → Leads (f.onward item.visit.at) choice to → index_of to < f.points)
      → new.seen ≡ slice_set old.seen (index_of item.visit.at) (union item.row (row_at old (index_of item.visit.at)))
      → new.reached ≡ slice_set old.reached (index_of item.visit.at) true → new.visits ≡ old.visits ++ item.visit ∷ []
      → n ≡ length old.visits → row ≡ f.pass item.visit.at item.row → f.bad item.visit.at item.row ≡ false
      → new.queue.items ≡ pushed_items (f.onward item.visit.at) n row old.queue.items
      → Stands f new new.queue.items
  goes-on old new item row n s inside seen reached visits number_is row_is clean queue =
      subst (Stands f new) (sym queue) (record {
        done = s.done ++ t ∷ [];
        logged = subst (λ (z : List Visit). Logged f z (s.done ++ t ∷ [])) (sym visits) (logged-more old.visits s.done item.visit item.row s.logged (s.from_done item (here item old.queue.items)));
        from_done = λ x has. elim (in-items (f.onward item.visit.at) n row old.queue.items x has) [
          | inl early ↦ more x.visit.from (s.from_done x (there x item old.queue.items early))
          | inr new ↦ subst (λ (z : Waiting). IsFrom f z.visit.from (length (s.done ++ t ∷ []))) new.3 (let k = length-append s.done (t ∷ []) in let l = s.logged.long in omega (number_is, k, l, arith))
        ];
        seen = subst (λ (z : List Bits). Seen f z new.reached (s.done ++ t ∷ [])) (sym seen) (subst (λ (z : List Bool). Seen f (slice_set old.seen (index_of t.at) (union t.row (row_at old (index_of t.at)))) z (s.done ++ t ∷ [])) (sym reached)
            (seen-more old.seen old.reached s.done t s.seen (s.within item (here item old.queue.items)) (s.widths item (here item old.queue.items))));
        visited = subst (Visited f (s.done ++ t ∷ []))
            (sym (waiting-pushed s.done t row (f.onward item.visit.at) old.queue.items n (number_is ∙ s.logged.long) row_is (λ x has. s.from_done x (there x item old.queue.items has))))
            (goes-further f law s.done t (waiting_of f s.done old.queue.items) s.visited clean);
        widths = λ x has. elim (in-items (f.onward item.visit.at) n row old.queue.items x has) [
          | inl early ↦ s.widths x (there x item old.queue.items early)
          | inr new ↦ subst (λ (z : Waiting). length z.row ≡ f.width) new.3 (ap length row_is ∙ law.keeps item.visit.at item.row (s.widths item (here item old.queue.items)))
        ];
        within = λ x has. elim (in-items (f.onward item.visit.at) n row old.queue.items x has) [
          | inl early ↦ s.within x (there x item old.queue.items early)
          | inr new ↦ subst (λ (z : Waiting). index_of z.visit.at < f.points) new.3 (inside new.0 new.1 new.2)
        ];
      })
    where
      t : Trip
      t = trip_of f s.done item.visit item.row

      more : (from : Option ℕ) → IsFrom f from (length s.done) → IsFrom f from (length (s.done ++ trip_of f s.done item.visit item.row ∷ []))
      more None h = h
      more (Some k) h = let e = length-append s.done (trip_of f s.done item.visit item.row ∷ []) in omega (h, e, arith)

  pub starts : (s : Search) (item : Waiting) → s.seen ≡ replicate f.points (replicate f.width false) → s.reached ≡ replicate f.points false → s.visits ≡ [] → s.queue.items ≡ item ∷ []
      → item.visit.from ≡ None → trip_of f [] item.visit item.row ≡ beginning f → index_of item.visit.at < f.points → Stands f s s.queue.items
  starts s item seen reached visits queue from is within =
      subst (Stands f s) (sym queue) (record {
        done = [];
        logged = subst (λ (z : List Visit). Logged f z []) (sym visits) (record {
          long = refl;
          froms = λ n v at. absurd (none-some v at);
          each = λ n v at. absurd (none-some v at);
        });
        from_done = λ x has. only x has (λ (z : Waiting). IsFrom f z.visit.from 0) (subst (λ (o : Option ℕ). IsFrom f o 0) (sym from) tt);
        seen = subst (λ (z : List Bits). Seen f z s.reached []) (sym seen) (subst (λ (z : List Bool). Seen f (replicate f.points (replicate f.width false)) z []) (sym reached) (record {
          seen_are = length-replicate f.points (replicate f.width false);
          reached_are = length-replicate f.points false;
          widths = λ n below. ap length (get_or-replicate f.points n (replicate f.width false) [] below) ∙ length-replicate f.width false;
          flags = λ at on. absurd (false≢true (sym (none_on f.points (index_of at)) ∙ on));
          bits = λ at i on. absurd (false≢true (sym (none_there (index_of at) i) ∙ on));
        }));
        visited = subst (λ (z : Trip). Visited f [] (z ∷ [])) (sym is) (begun f law);
        widths = λ x has. only x has (λ (z : Waiting). length z.row ≡ f.width) (ap (λ (z : Trip). length z.row) is ∙ law.starts);
        within = λ x has. only x has (λ (z : Waiting). index_of z.visit.at < f.points) within;
      })
    where
      only : (x : Waiting) → Contains (item ∷ []) x → (P : Waiting → Type 0) → P item → P x
      only x has P h = elim (first-or x item [] has) [ inl same ↦ subst P same h | inr stop ↦ absurd (none-in x stop) ]

      none_on : (n i : ℕ) → slice_index_or (replicate n false) i false ≡ false
      none_on zero i = refl
      none_on (suc n) zero = refl
      none_on (suc n) (suc i) = none_on n i

      none_there : (n i : ℕ) → bit (slice_index_or (replicate f.points (replicate f.width false)) n []) i ≡ false
      none_there n i = elim (cases_lt n f.points) [
        | inl below ↦ ap (λ (z : Bits). bit z i) (get_or-replicate f.points n (replicate f.width false) [] below) ∙ none_on f.width i
        | inr past ↦ ap (λ (z : Bits). bit z i) (get_or-eq_default (replicate f.points (replicate f.width false)) [] (let k = length-replicate f.points (replicate f.width false) in omega (past, k, arith)))
      ]

  -- there is less to come
  pub less-left : (old new : Search) (at : ℕ) (row : Bits) → length row ≡ length (row_at old at) → at < length old.seen → at < length old.reached
      → new.seen ≡ slice_set old.seen at (union row (row_at old at)) → new.reached ≡ slice_set old.reached at true
      → (union row (row_at old at) ≢ row_at old at) ⊎ (slice_index_or old.reached at false ≡ false)
      → sum_by off new.seen + sum_by is_off new.reached < sum_by off old.seen + sum_by is_off old.reached
  less-left old new at row long seen_in reached_in seen reached news = elim news [
    | inl another ↦ (let less = fewer-than row (row_at old at) long another in let b = bits in let g = flags in let l = small in omega (less, b, g, l, arith))
    | inr unreached ↦ (let less = fewer row (row_at old at) long in let b = bits in let g = flags in let u : is_off (slice_index_or old.reached at false) ≡ 1 = ap is_off unreached in omega (less, b, g, u, arith))
  ]
    where
      bits : sum_by off new.seen + off (row_at old at) ≡ sum_by off old.seen + off (union row (row_at old at))
      bits = ap (λ (z : List Bits). sum_by off z + off (row_at old at)) seen ∙ sum_by-set off old.seen at (union row (row_at old at)) [] seen_in

      flags : sum_by is_off new.reached + is_off (slice_index_or old.reached at false) ≡ sum_by is_off old.reached + 0
      flags = ap (λ (z : List Bool). sum_by is_off z + is_off (slice_index_or old.reached at false)) reached ∙ sum_by-set is_off old.reached at true false reached_in

      small : 0 ≤ is_off (slice_index_or old.reached at false)
      small = omega arith

  pub two-more : (o : Onward) (n : ℕ) (row : Bits) (items : List Waiting) → length (pushed_items o n row items) ≤ length items + 2
  two-more Onward.Nowhere n row items = omega arith
  two-more (Onward.Silent to) n row items = omega arith
  two-more (Onward.Choices a b) n row items =
      let k = length-append items (chosen_items n row a false ++ chosen_items n row b true) in
      let l = length-append (chosen_items n row a false) (chosen_items n row b true) in
      let one = at-most a false in let two = at-most b true in omega (k, l, one, two, arith)
    where
      at-most : (o : Option Point) (c : Bool) → length (chosen_items n row o c) ≤ 1
      at-most None c = omega arith
      at-most (Some to) c = omega arith
