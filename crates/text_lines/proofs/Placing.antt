-- Text put in place. Assumes nothing.
use Rattle.std.specs.Prelude.{Some, None}
use Rattle.walks.proofs.Words.{◌≡◌, refl, sym, ap, ◌∙◌, ℕ, ◌+◌, ◌-◌, ◌≤◌, ◌<◌, arith, append_assoc, List, [], ◌∷◌, ◌++◌, length, take, drop, drop-drop, length-append, sets, le-leb, lt-leb}
use Rattle.std.proofs.lemmas.List.Edits.{sets-eq}
use Rattle.text_lines.proofs.Terms.{sets-append, text, one_number, two_numbers, writing, write_at, decimal}

-- a part, and the next behind it
pub sets_then : (o : List ℕ) (i k : ℕ) (v w p q : List ℕ) → k ≡ length v → p ≡ sets o i v → q ≡ sets p (i + k) w → q ≡ sets o i (v ++ w)
sets_then o i k v w p q is_k is_p is_q =
    is_q ∙ ap (λ (x : List ℕ). sets x (i + k) w) is_p ∙ ap (λ (x : ℕ). sets (sets o i v) (i + x) w) is_k ∙ sets-append o i v w

-- a part of an output, written at once
pub part_put : (o v w : List ℕ) (at : ℕ) → at + length v ≤ length o → w ≡ v → take at o ++ (w ++ drop (at + length v - at) (drop at o)) ≡ sets o at v
part_put o v w at h e =
    let k : at + length v - at ≡ length v = omega arith in
    rw (k, e, drop-drop) (sym (append_assoc (take at o) v (drop (at + length v) o)) ∙ sym (sets-eq v o at h))

-- ---- a line, part by part

module _ (line out : List ℕ) (place size : ℕ) (is_size : size ≡ length line) where
  pub no_room : length out < place + size → writing None out ≡ write_at line out place
  unfolding write_at
  no_room h = rw (← is_size, lt-leb (place + size) (length out) h)

  pub written : place + size ≤ length out → (after : List ℕ) → after ≡ sets out place line → writing (Some size) after ≡ write_at line out place
  unfolding write_at
  written h after e = rw (← is_size, le-leb (place + size) (length out) h, e)

pub length-one : (word : List ℕ) (n size : ℕ) → size ≡ length (decimal n) → length word + (size + 1) ≡ length (one_number word n)
unfolding one_number text
length-one word n size e = rw (length-append, length-append) (omega arith)

pub length_two : (word : List ℕ) (m n j k : ℕ) → j ≡ length (decimal m) → k ≡ length (decimal n)
    → length word + ((j + 1) + (k + 1)) ≡ length (two_numbers word m n)
unfolding two_numbers text
length_two word m n j k e f = simp length-append (omega arith)

pub placed_one : (o word d : List ℕ) (place n : ℕ) (p q : List ℕ) → d ≡ decimal n → p ≡ sets o place word → q ≡ sets p (place + length word) (d ++ (10 ∷ []))
    → q ≡ sets o place (one_number word n)
unfolding one_number text
placed_one o word d place n p q is_d is_p is_q =
    sets_then o place (length word) word (decimal n ++ (10 ∷ [])) p q refl is_p (is_q ∙ ap (λ (x : List ℕ). sets p (place + length word) (x ++ (10 ∷ []))) is_d)

pub placed_two : (o word d e : List ℕ) (place m n : ℕ) (p q s : List ℕ) → d ≡ decimal m → e ≡ decimal n → p ≡ sets o place word
    → q ≡ sets p (place + length word) (d ++ (32 ∷ [])) → s ≡ sets q (place + length word + (length d + 1)) (e ++ (10 ∷ []))
    → s ≡ sets o place (two_numbers word m n)
unfolding two_numbers text
placed_two o word d e place m n p q s is_d is_e is_p is_q is_s =
    let l : length d + 1 ≡ length (d ++ (32 ∷ [])) = rw length-append (omega arith) in
    let both : s ≡ sets o place (word ++ ((d ++ (32 ∷ [])) ++ (e ++ (10 ∷ [])))) =
    sets_then o place (length word) word ((d ++ (32 ∷ [])) ++ (e ++ (10 ∷ []))) p s refl is_p
    (sets_then p (place + length word) (length d + 1) (d ++ (32 ∷ [])) (e ++ (10 ∷ [])) q s l is_q is_s) in
    rw (is_d, is_e) at both
