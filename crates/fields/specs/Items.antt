-- A list in a box: elements one after another, each read where the one before it ends.
use Rattle.std.specs.Prelude.{ℕ, zero, suc, ◌+◌, ◌-◌, List, [], ◌∷◌, ◌++◌, length, take, replicate, Ok, Result}
use Rattle.fault.specs.declared.fault.Fault.{Fault}
use Rattle.fault.specs.declared.layer.Layer.{Layer}
use Rattle.fields.specs.Field.{then}
use Rattle.fields.specs.Header.{count_at}
use Rattle.fields.specs.declared.item.Item.{Item}
use Rattle.fields.specs.declared.table.Table.{Table}

-- k elements from `at` on, with where the last one ends
abbrev pub items_from : {A : Type 0} → (List ℕ → ℕ → Result (Item A) Fault) → ℕ → List ℕ → ℕ → Result (Item (List A)) Fault
items_from read zero xs at = Ok (record { value = []; next = at })
items_from read (suc k) xs at =
    then (read xs at) (λ first.
    then (items_from read k xs first.next) (λ rest.
    Ok (record { value = first.value ∷ rest.value; next = rest.next })))

-- sixteen slots that begin with these
abbrev pub padded : {A : Type 0} → A → List A → List A
padded blank es = es ++ replicate (16 - length es) blank

-- the elements of a table
abbrev pub items : {A : Type 0} → Table A → List A
items t = take t.count t.slots

-- a table of these
abbrev pub table_of : {A : Type 0} → A → List A → Table A
table_of blank es = record { count = length es; slots = padded blank es }

-- the n elements that were read, in a table
abbrev pub tabled : {A : Type 0} → A → ℕ → Item (List A) → Item (Table A)
tabled blank n es = record { value = record { count = n; slots = padded blank es.value }; next = es.next }

-- a list: how many elements there are, and then the elements, with where the last one ends
abbrev pub list_at : {A : Type 0} → A → (List ℕ → ℕ → Result (Item A) Fault) → Layer → List ℕ → ℕ → Result (Item (Table A)) Fault
list_at blank read who xs at =
    then (count_at who xs at) (λ n.
    then (items_from read n xs (at + 4)) (λ es.
    Ok (tabled blank n es)))
