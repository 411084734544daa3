-- What a write through a memory leaves in the buffer.
use Rattle.std.proofs.Common.{◌≡◌, ℕ, List, [], ◌∷◌, ◌++◌, take, drop, set}
use Rattle.std.proofs.lemmas.List.{take-append-drop}
use Rattle.store.specs.Unwritten.{nothing, along}

module _ (limit n m at v : ℕ) (old given last : List ℕ) (e : given ≡ old) (k : along (m ∷ []) (along (drop limit last) nothing) ≡ along (n ∷ []) (along (drop limit given) nothing)) where
  -- it is the same buffer
  pub same_name : m ≡ n
  same_name = cc

  pub written_back : take limit last ≡ set (take limit given) at v → last ≡ set (take limit old) at v ++ drop limit old
  written_back w =
      let whole = take-append-drop limit last in
      let rest : drop limit last ≡ drop limit given = cc in
      cc
