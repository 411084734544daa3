-- The table, entry by entry.
use Rattle.std.proofs.Common.{◌≡◌, ℕ, ◌+◌, ◌<◌, ◌≤◌, List, [], ◌∷◌, ◌++◌, map, length, get_or, take, set, sym, ap, ◌∙◌, arith}
use Rattle.std.proofs.lemmas.List.{length-set, set-set, take_more_set, take_more, map-append}

-- one entry more, which was stored and then lent
pub filled : {X Y : Type 0} (f : X → Y) (es : List X) (table : List Y) (i : ℕ) (x y : Y) (d : X) → i < length es → length es ≤ 16 → length table ≡ 16
    → take i table ≡ map f (take i es) → y ≡ f (get_or es i d)
    → (length (set (set table i x) i y) ≡ 16) × (take (i + 1) (set (set table i x) i y) ≡ map f (take (i + 1) es))
filled f es table i x y d h few n e s =
    let l : i < length table = omega arith in (
      simp length-set n,
      ap (take (i + 1)) (set-set table i x y) ∙ take_more_set table i y l ∙ ap (λ zs. zs ++ y ∷ []) e ∙ ap (λ z. map f (take i es) ++ z ∷ []) s
          ∙ sym (map-append f (take i es) (get_or es i d ∷ [])) ∙ ap (map f) (sym (take_more es i d h)),
    )
