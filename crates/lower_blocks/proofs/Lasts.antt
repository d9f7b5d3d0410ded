-- Lists of which a contract sees the last element first.
use Rattle.std.proofs.Common.{◌≡◌, ◌∙◌, ◌++◌, ◌∷◌, ◌<◌, ℕ, suc, List, [], Some, length, take, get_or, map, reverse, ap, if◌then◌else◌}
use Rattle.std.proofs.Math.Seq.{take-suc}
use Rattle.std.proofs.lemmas.List.{reverse-append, map-append}
use Rattle.lower_code.specs.View.{entry_of}
use Rattle.lower_code.specs.declared.code.Entry.{Entry}
use Rattle.lower_passes.specs.Scoped.{entries_of}
use Rattle.lower_passes.proofs.Lists.{entries_last}
use Rattle.lower_rules.specs.Build.{SharedEnd, same_end, end_among}
use Rattle.lower_blocks.specs.Building.{end_of, line_of, listed_as, listed_in}
use Rattle.lower_blocks.specs.declared.blocks.NodeLine.{NodeLine}
use Rattle.lower_blocks.specs.declared.blocks.SharedBlock.{SharedBlock}

last_first : {A B : Type 0} (f : A → B) (xs : List A) (x : A) →
    reverse (map f (xs ++ x ∷ [])) ≡ f x ∷ reverse (map f xs)
last_first f xs x = ap reverse (map-append f xs (x ∷ [])) ∙ reverse-append (map f xs) (f x ∷ [])

pub lines_last : (lines : List NodeLine) (l : NodeLine) →
    reverse (map line_of (lines ++ l ∷ [])) ≡ line_of l ∷ reverse (map line_of lines)
lines_last = last_first line_of

pub shared_last : (blocks : List SharedBlock) (b : SharedBlock) →
    listed_in (blocks ++ b ∷ []) ≡ listed_as b ∷ listed_in blocks
shared_last = last_first listed_as

-- shared blocks are looked for from the newest on
pub among_more : (e : SharedEnd) (blocks : List SharedBlock) (n : ℕ) (d : SharedBlock) → n < length blocks →
    end_among e (listed_in (take (suc n) blocks))
    ≡ (if same_end e (end_of (get_or blocks n d).end) then Some (get_or blocks n d).block
    else end_among e (listed_in (take n blocks)))
among_more e blocks n d less =
    ap (λ (bs : List SharedBlock). end_among e (listed_in bs)) (take-suc blocks n d less)
    ∙ ap (end_among e) (shared_last (take n blocks) (get_or blocks n d))

-- one entry more, the youngest
pub entries_more : (entries : List Entry) (n : ℕ) (d : Entry) → n < length entries →
    entries_of (take (suc n) entries) ≡ entry_of (get_or entries n d) ∷ entries_of (take n entries)
entries_more entries n d less =
    ap entries_of (take-suc entries n d less) ∙ entries_last (take n entries) (get_or entries n d)
