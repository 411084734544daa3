-- Bytes written one after another.
use Rattle.std.proofs.Common.{◌≡◌, ℕ, ◌+◌, ◌/◌, ◌%◌, ◌<◌, ◌≤◌, true, false, cond, leb, List, ◌++◌, length, take, drop, Ok, Err, Result, sym, refl, ap, ◌∙◌, arith, le-leb}
use borrow.Author.Tests.{lt-leb}
use borrow.Rule.Slice.PartMut.{put_mid}
use Rattle.std.proofs.lemmas.List.{drop-drop, append_assoc, length-append, length-take-le, length-drop, take_at, drop_at}
use Rattle.fault.specs.Faults.{fault}
use Rattle.fault.specs.declared.fault.Fault.{Fault}
use Rattle.fault.specs.declared.layer.Layer.{Layer}
use Rattle.fault.specs.declared.reason.Reason.TheVariants.{Room}
use Rattle.fields.specs.Put.{placed, put_at, word_bytes, boxed, write_answer, written_to}

pub placed_from : (o b ys : List ℕ) (at k : ℕ) → ys ≡ b → k ≡ length b → put_mid at k o ys ≡ placed o at b
placed_from o b ys at k e f = rw (e, f, drop-drop (length b) at o)

-- what is written next stands after what was written from a on
placed_next : (o p s : List ℕ) (a at : ℕ) → at ≡ a + length p → at + length s ≤ length o → placed (placed o a p) at s ≡ placed o a (p ++ s)
placed_next o p s a at e h =
    let F : List ℕ = take a o ++ p in
    let Q : List ℕ = drop (a + length p) o in
    let g : placed o a p ≡ F ++ Q = sym (append_assoc (take a o) p Q) in
    let n : length F ≡ at = omega (arith, length-append (take a o) p, length-take-le a o (omega arith)) in
    let t : take at (placed o a p) ≡ F = ap (take at) g ∙ take_at F Q at n in
    let d : drop (at + length s) (placed o a p) ≡ drop (a + length (p ++ s)) o =
    sym (drop-drop (length s) at (placed o a p)) ∙ ap (drop (length s)) (ap (drop at) g ∙ drop_at F Q at n) ∙ drop-drop (length s) (a + length p) o ∙ ap (λ n. drop n o) (omega (arith, length-append p s)) in
    rw (t, d) (simp append_assoc)

-- what is written where there is room
pub put-placed : (o s : List ℕ) (at : ℕ) {x : List ℕ} → x ≡ put_at o at s → at + length s ≤ length o → x ≡ placed o at s
put-placed o s at e h = e ∙ ap (λ b. cond b (placed o at s) o) (le-leb (at + length s) (length o) h)

-- and back
pub placed-put : (o s : List ℕ) (at : ℕ) {x : List ℕ} → x ≡ placed o at s → at + length s ≤ length o → x ≡ put_at o at s
placed-put o s at e h = e ∙ sym (ap (λ b. cond b (placed o at s) o) (le-leb (at + length s) (length o) h))

length-placed : (o s : List ℕ) (at : ℕ) → at + length s ≤ length o → length (placed o at s) ≡ length o
length-placed o s at h =
    omega (arith, length-append (take at o) (s ++ drop (at + length s) o), length-append s (drop (at + length s) o), length-take-le at o (omega arith), length-drop (at + length s) o)

pub then-placed : (o p s : List ℕ) (a at : ℕ) {x y : List ℕ} → x ≡ placed o a p → y ≡ placed x at s → at ≡ a + length p → at + length s ≤ length o → y ≡ placed o a (p ++ s)
then-placed o p s a at e f l h = f ∙ ap (λ z. placed z at s) e ∙ placed_next o p s a at l h

pub then-put : (o p s : List ℕ) (a at : ℕ) {x y : List ℕ} → x ≡ placed o a p → y ≡ put_at x at s → at ≡ a + length p → at + length s ≤ length o → y ≡ placed o a (p ++ s)
then-put o p s a at {x} e f l h =
    let n : length x ≡ length o = ap length e ∙ length-placed o p a (omega arith) in
    then-placed o p s a at e (put-placed x s at f (omega arith)) l h

-- a size field holds the low 32 bits of a size
pub word_low : (n : ℕ) → word_bytes (n % 4294967296) ≡ word_bytes n
word_low n =
    let a : n % 4294967296 / 16777216 % 256 ≡ n / 16777216 % 256 = omega arith in
    let b : n % 4294967296 / 65536 % 256 ≡ n / 65536 % 256 = omega arith in
    let c : n % 4294967296 / 256 % 256 ≡ n / 256 % 256 = omega arith in
    let d : n % 4294967296 % 256 ≡ n % 256 = omega arith in
    cc

-- a header, and then what the box holds
pub box_placed : (o body : List ℕ) (size type : ℕ) {x y : List ℕ} → x ≡ placed o 0 (word_bytes size ++ word_bytes type) → y ≡ placed x 8 body → size ≡ 8 + length body → size ≤ length o → y ≡ placed o 0 (boxed type body)
box_placed o body size type e f n h =
    then-placed o (word_bytes size ++ word_bytes type) body 0 8 e f refl (omega arith)
    ∙ ap (λ k. placed o 0 (word_bytes k ++ (word_bytes type ++ body))) n

module _ (who : Layer) (bytes o : List ℕ) where
  -- both promises of a writer, where there is room and where there is none
  abbrev pub Writes : Result ℕ Fault → List ℕ → Type 0
  Writes r after = (r ≡ write_answer who bytes o) × (after ≡ written_to bytes o)

  pub writes : (n : ℕ) (after : List ℕ) → n ≡ length bytes → n ≤ length o → after ≡ placed o 0 bytes → Writes (Ok n) after
  writes n after e h p =
      let t : leb (length bytes) (length o) ≡ true = le-leb (length bytes) (length o) (omega arith) in (
        ap Ok e ∙ sym (ap (λ b. cond b (Ok (length bytes)) (Err (fault Room who 0))) t),
        p ∙ sym (ap (λ b. cond b (placed o 0 bytes) o) t),
      )

  pub no_room : length o < length bytes → Writes (Err (fault Room who 0)) o
  no_room h =
      let t : leb (length bytes) (length o) ≡ false = lt-leb (length bytes) (length o) h in (
        sym (ap (λ b. cond b (Ok (length bytes)) (Err (fault Room who 0))) t),
        sym (ap (λ b. cond b (placed o 0 bytes) o) t),
      )
