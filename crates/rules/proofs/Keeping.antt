-- One turn of a loop over the entries.
use Rattle.std.proofs.Common.{◌≡◌, ℕ, ◌+◌, ◌<◌, Bool, true, List, [], ◌∷◌, ◌++◌, length, get_or, take, drop, Result, sym, ap, ◌∙◌}
use Rattle.std.proofs.lemmas.List.{at_drop_more, take_more}
use Rattle.fault.specs.declared.fault.Fault.{Fault}
use Rattle.fault.specs.declared.reason.Reason.{Reason}
use Rattle.fields.specs.Field.{then, check}
use Rattle.configuration.specs.Entries.{blank}
use Rattle.configuration.specs.declared.entry.Entry.{Entry}
use Rattle.rules.specs.Rules.{broken_at, each_keeps}

module _ (keeps : List Entry → Entry → Bool) (why : Reason) (es : List Entry) where
  -- the answer, where the first i entries keep the rule
  abbrev pub from : ℕ → Result (Unit {0}) Fault
  from i = each_keeps keeps why (take i es) (drop i es)

  pub goes_on : (i : ℕ) → i < length es → keeps (take i es) (get_or es i blank) ≡ true → from i ≡ from (i + 1)
  goes_on i h e =
      at_drop_more (each_keeps keeps why (take i es)) es i blank h
      ∙ ap (λ b. then (check b (broken_at why (length (take i es)))) (λ _. each_keeps keeps why (take i es ++ get_or es i blank ∷ []) (drop (i + 1) es))) e
      ∙ ap (λ t. each_keeps keeps why t (drop (i + 1) es)) (sym (take_more es i blank h))
