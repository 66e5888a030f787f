-- The runs of one slab joined where they touch or overlap.
use Rattle.std.specs.Prelude.{List, [], ◌∷◌, ◌+ℤ◌, int_lt, if◌then◌else◌}
use Rattle.strips.specs.declared.Strip.{Strip}

-- a with the right side of b, where that is further
abbrev pub joined : Strip → Strip → Strip
joined a b =
    if int_lt (a.right +ℤ a.right_end) (b.right +ℤ b.right_end)
    then record { top = a.top; bottom = a.bottom; left = a.left; left_end = a.left_end; right = b.right; right_end = b.right_end }
    else a

-- the first run so far, and those to come, from left to right
abbrev pub merged_from : Strip → List Strip → List Strip
merged_from a [] = a ∷ []
merged_from a (b ∷ bs) =
    if int_lt (a.right +ℤ a.right_end) (b.left +ℤ b.left_end) then a ∷ merged_from b bs else merged_from (joined a b) bs

-- the runs of a slab, joined
abbrev pub merged : List Strip → List Strip
merged [] = []
merged (a ∷ bs) = merged_from a bs
