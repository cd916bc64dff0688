-- What the definitions of specs/Lines.antt say of a text, told by the first byte of a kind in it, or by the next number.
--
--   before_is      how many bytes are before the first of a kind, told by its place
--   line_found     the length of a line, told by the place of its first newline
--   lines_next     the lines of a text are the text, for the first, and the lines from the next one on
--   behind_found   the way behind a sign, told by the place of the first one before the end of the line
--   number_next    all numbers of a text are the next one, before all numbers of what is left behind it
--   number_none    there are no numbers where there is no next one
--
-- Assumes nothing.
use Rattle.std.proofs.Common.{◌≡◌, ◌+◌, ◌-◌, ℕ, suc, Bool, true, false, ◌||◌, List, [], ◌∷◌, length, refl, sym, ap, ◌∙◌, arith, cond, Option, Some, None, MatchOption, ◌⊎◌, inl, inr, unwrap_or, is_some, subst, take, drop, ◌<◌}
use Rattle.std.specs.List.{position, position_from}
use Rattle.std.proofs.lemmas.Iterator.Adapters.{position_from-zero}
use Rattle.std.proofs.lemmas.Option.{MatchOption-at_some, MatchOption-at_none}
use lib.Dec.{eqb}
use Rattle.plan.proofs.Lists.{test}
use Rattle.test_cases.specs.Lines.{is_digit, is_sign, appended, Read, number_from, number_in, begun, numbers_from, numbers_in, line_length, line_starts, lines_in, behind_length, length_before}

-- ---- the first byte of a kind

before_from : (b k : ℕ) (cs : List ℕ) → k + length_before b cs ≡ unwrap_or (position_from (λ c. eqb c b) k cs) (k + length cs)
before_from b k [] = refl
before_from b k (c ∷ cs) = go (eqb c b) (before_from b (k + 1) cs)
  where
    go : (t : Bool) → k + 1 + length_before b cs ≡ unwrap_or (position_from (λ c. eqb c b) (k + 1) cs) (k + 1 + length cs)
        → k + elim t as (λ _. ℕ) [ true ↦ 0 | false ↦ suc (length_before b cs) ]
        ≡ unwrap_or (cond t (Some k) (position_from (λ c. eqb c b) (k + 1) cs)) (k + suc (length cs))
    go true e = omega arith
    go false e =
        let long : k + suc (length cs) ≡ k + 1 + length cs = omega arith in
        let more : k + suc (length_before b cs) ≡ k + 1 + length_before b cs = omega arith in
        more ∙ e ∙ ap (unwrap_or (position_from (λ c. eqb c b) (k + 1) cs)) (sym long)

pub before_is : (b : ℕ) (cs : List ℕ) → length_before b cs ≡ unwrap_or (position (λ c. eqb c b) cs) (length cs)
before_is b cs =
    let e = before_from b 0 cs in
    let z : 0 + length_before b cs ≡ length_before b cs = omega arith in
    let y : 0 + length cs ≡ length cs = omega arith in
    sym z ∙ e ∙ ap (unwrap_or (position_from (λ c. eqb c b) 0 cs)) y ∙ ap (λ (o : Option ℕ). unwrap_or o (length cs)) (sym (position_from-zero (λ c. eqb c b) cs))

-- where a line ends, by its first newline
abbrev line_by : ℕ → List ℕ → Option ℕ → ℕ
line_by k cs None = k + length cs
line_by k cs (Some i) = i + 1

line_from : (k : ℕ) (cs : List ℕ) → k + line_length cs ≡ line_by k cs (position_from (λ c. eqb c 10) k cs)
line_from k [] = refl
line_from k (c ∷ cs) = go (eqb c 10) (line_from (k + 1) cs)
  where
    go : (b : Bool) → k + 1 + line_length cs ≡ line_by (k + 1) cs (position_from (λ c. eqb c 10) (k + 1) cs)
        → k + elim b as (λ _. ℕ) [ true ↦ 1 | false ↦ suc (line_length cs) ]
        ≡ line_by k (c ∷ cs) (cond b (Some k) (position_from (λ c. eqb c 10) (k + 1) cs))
    go true e = refl
    go false e = more ∙ e ∙ by_next (position_from (λ c. eqb c 10) (k + 1) cs)
      where
        more : k + suc (line_length cs) ≡ k + 1 + line_length cs
        more = omega arith

        by_next : (o : Option ℕ) → line_by (k + 1) cs o ≡ line_by k (c ∷ cs) o
        by_next None = omega arith
        by_next (Some i) = refl

line_is : (cs : List ℕ) → line_length cs ≡ line_by 0 cs (position (λ c. eqb c 10) cs)
line_is cs =
    let e = line_from 0 cs in
    let z : 0 + line_length cs ≡ line_length cs = omega arith in
    sym z ∙ e ∙ ap (line_by 0 cs) (sym (position_from-zero (λ c. eqb c 10) cs))

pub line_found : (cs : List ℕ) (o : Option ℕ) (r : ℕ) → o ≡ position (λ c. eqb c 10) cs → MatchOption o (r ≡ length cs) (λ i. r ≡ i + 1) → r ≡ line_length cs
line_found cs o r e m = matched o r m ∙ ap (line_by 0 cs) e ∙ sym (line_is cs)
  where
    matched : (o : Option ℕ) (r : ℕ) → MatchOption o (r ≡ length cs) (λ i. r ≡ i + 1) → r ≡ line_by 0 cs o
    matched None r m = m ∙ omega arith
    matched (Some i) r m = m

-- within a line, the lines that start further on are those from the next line on
lines_on : (cs : List ℕ) → line_starts false cs ≡ lines_in (drop (line_length cs) cs)
lines_on [] = refl
lines_on (c ∷ cs) = go (eqb c 10) (lines_on cs)
  where
    go : (b : Bool) → line_starts false cs ≡ lines_in (drop (line_length cs) cs)
        → line_starts b cs ≡ lines_in (drop (elim b as (λ _. ℕ) [ true ↦ 1 | false ↦ suc (line_length cs) ]) (c ∷ cs))
    go true e = refl
    go false e = e

pub lines_next : (cs : List ℕ) → 0 < length cs → lines_in cs ≡ cs ∷ lines_in (drop (line_length cs) cs)
lines_next [] h = absurd (omega arith)
lines_next (c ∷ cs) h = ap (λ (ls : List (List ℕ)). (c ∷ cs) ∷ ls) (lines_on (c ∷ cs))

-- the way behind a sign, by the first one before so many bytes
abbrev behind_by : ℕ → Option ℕ → ℕ
behind_by n None = n
behind_by n (Some i) = i + 1

behind_from : (sign k : ℕ) (cs : List ℕ)
    → k + behind_length sign cs ≡ behind_by (k + length_before 10 cs) (position_from (λ c. eqb c sign) k (take (length_before 10 cs) cs))
behind_from sign k [] = refl
behind_from sign k (c ∷ cs) = go (eqb c 10) (by_sign (eqb c sign) _ (behind_from sign (k + 1) cs))
  where
    by_sign : (t : Bool) (found : Option ℕ) → k + 1 + behind_length sign cs ≡ behind_by (k + 1 + length_before 10 cs) found
        → k + elim t as (λ _. ℕ) [ true ↦ 1 | false ↦ suc (behind_length sign cs) ] ≡ behind_by (k + suc (length_before 10 cs)) (cond t (Some k) found)
    by_sign true found e = refl
    by_sign false found e =
        let long : k + suc (length_before 10 cs) ≡ k + 1 + length_before 10 cs = omega arith in
        let more : k + suc (behind_length sign cs) ≡ k + 1 + behind_length sign cs = omega arith in
        more ∙ e ∙ ap (λ (n : ℕ). behind_by n found) (sym long)

    go : (b : Bool)
        → k + elim (eqb c sign) as (λ _. ℕ) [ true ↦ 1 | false ↦ suc (behind_length sign cs) ]
        ≡ behind_by (k + suc (length_before 10 cs)) (cond (eqb c sign) (Some k) (position_from (λ c. eqb c sign) (k + 1) (take (length_before 10 cs) cs)))
        → k + elim b as (λ _. ℕ) [ true ↦ 0 | false ↦ elim (eqb c sign) as (λ _. ℕ) [ true ↦ 1 | false ↦ suc (behind_length sign cs) ] ]
        ≡ behind_by
        (k + elim b as (λ _. ℕ) [ true ↦ 0 | false ↦ suc (length_before 10 cs) ])
        (position_from (λ c. eqb c sign) k (take (elim b as (λ _. ℕ) [ true ↦ 0 | false ↦ suc (length_before 10 cs) ]) (c ∷ cs)))
    go true e = refl
    go false e = e

behind_is : (sign : ℕ) (cs : List ℕ)
    → behind_length sign cs ≡ behind_by (length_before 10 cs) (position (λ c. eqb c sign) (take (length_before 10 cs) cs))
behind_is sign cs =
    let e = behind_from sign 0 cs in
    let z : 0 + behind_length sign cs ≡ behind_length sign cs = omega arith in
    let y : 0 + length_before 10 cs ≡ length_before 10 cs = omega arith in
    sym z
    ∙ e
    ∙ ap (λ (n : ℕ). behind_by n (position_from (λ c. eqb c sign) 0 (take (length_before 10 cs) cs))) y
    ∙ ap (behind_by (length_before 10 cs)) (sym (position_from-zero (λ c. eqb c sign) (take (length_before 10 cs) cs)))

pub behind_found : (sign n : ℕ) (cs : List ℕ) (o : Option ℕ) (r : ℕ) → n ≡ length_before 10 cs → o ≡ position (λ c. eqb c sign) (take n cs)
    → MatchOption o (r ≡ n) (λ i. r ≡ i + 1)
    → r ≡ behind_length sign cs
behind_found sign n cs o r l e m =
    matched o r m
    ∙ ap (behind_by n) e
    ∙ ap (λ (k : ℕ). behind_by k (position (λ c. eqb c sign) (take k cs))) l
    ∙ sym (behind_is sign cs)
  where
    matched : (o : Option ℕ) (r : ℕ) → MatchOption o (r ≡ n) (λ i. r ≡ i + 1) → r ≡ behind_by n o
    matched None r m = m
    matched (Some i) r m = m

-- ---- all numbers

module _ (n : Option ℕ) (c : ℕ) (cs : List ℕ) where
  -- the number with the digit c behind it
  abbrev more : Option ℕ
  more = Some (appended (unwrap_or n 0) (c - 48))

  next_digit : is_digit c ≡ true → number_from n (c ∷ cs) ≡ number_from more cs
  next_digit d =
      ap
      (λ t. elim t [
        | true ↦ number_from more cs
        | false ↦ elim (is_some n || is_sign c) [ true ↦ record { number = n; rest = c ∷ cs } | false ↦ number_from n cs ]
      ])
      d

  next_other : (s : Bool) → is_digit c ≡ false → (is_some n || is_sign c) ≡ s
      → number_from n (c ∷ cs) ≡ elim s [ true ↦ record { number = n; rest = c ∷ cs } | false ↦ number_from n cs ]
  next_other s d e =
      ap
      (λ t. elim t [
        | true ↦ number_from more cs
        | false ↦ elim (is_some n || is_sign c) [ true ↦ record { number = n; rest = c ∷ cs } | false ↦ number_from n cs ]
      ])
      d
      ∙ ap (λ t. elim t [ true ↦ record { number = n; rest = c ∷ cs } | false ↦ number_from n cs ]) e

  all_digit : is_digit c ≡ true → numbers_from n (c ∷ cs) ≡ numbers_from more cs
  all_digit d =
      ap (λ t. elim t [ true ↦ numbers_from more cs | false ↦ elim (is_sign c) [ true ↦ begun n [] | false ↦ begun n (numbers_in cs) ] ]) d

  all_other : (s : Bool) → is_digit c ≡ false → is_sign c ≡ s → numbers_from n (c ∷ cs) ≡ elim s [ true ↦ begun n [] | false ↦ begun n (numbers_in cs) ]
  all_other s d e =
      ap (λ t. elim t [ true ↦ numbers_from more cs | false ↦ elim (is_sign c) [ true ↦ begun n [] | false ↦ begun n (numbers_in cs) ] ]) d
      ∙ ap (λ t. elim t [ true ↦ begun n [] | false ↦ begun n (numbers_in cs) ]) e

-- all numbers are the next of them, before those of what is left behind it
abbrev Told : List ℕ → Read → Type 0
Told all r = MatchOption r.number (all ≡ []) (λ v. all ≡ v ∷ numbers_in r.rest)

told_by : (n : Option ℕ) (cs : List ℕ) → Told (numbers_from n cs) (number_from n cs)
told_by None [] = refl
told_by (Some v) [] = refl
told_by n (c ∷ cs) = go (λ (m : Option ℕ). told_by m cs) (test (is_digit c)) n (test (is_sign c))
  where
    go : ((m : Option ℕ) → Told (numbers_from m cs) (number_from m cs)) → (is_digit c ≡ true) ⊎ (is_digit c ≡ false) → (n : Option ℕ) → (is_sign c ≡ true) ⊎ (is_sign c ≡ false)
        → Told (numbers_from n (c ∷ cs)) (number_from n (c ∷ cs))
    go told (inl d) n s =
        subst (Told (numbers_from n (c ∷ cs))) (sym (next_digit n c cs d)) (
        subst (λ (l : List ℕ). Told l (number_from (Some (appended (unwrap_or n 0) (c - 48))) cs)) (sym (all_digit n c cs d)) (told (Some (appended (unwrap_or n 0) (c - 48))))
        )
    go told (inr d) (Some v) (inl s) =
        subst (Told (numbers_from (Some v) (c ∷ cs))) (sym (next_other (Some v) c cs true d refl)) (
        all_other (Some v) c cs true d s ∙ ap (λ (l : List ℕ). v ∷ l) (sym (all_other None c cs true d s))
        )
    go told (inr d) (Some v) (inr s) =
        subst (Told (numbers_from (Some v) (c ∷ cs))) (sym (next_other (Some v) c cs true d refl)) (
        all_other (Some v) c cs false d s ∙ ap (λ (l : List ℕ). v ∷ l) (sym (all_other None c cs false d s))
        )
    go told (inr d) None (inl s) = subst (Told (numbers_in (c ∷ cs))) (sym (next_other None c cs true d s)) (all_other None c cs true d s)
    go told (inr d) None (inr s) =
        subst (Told (numbers_in (c ∷ cs))) (sym (next_other None c cs false d s)) (
        subst (λ (l : List ℕ). Told l (number_in cs)) (sym (all_other None c cs false d s)) (told None)
        )

-- the next number, where there is one, is the first of all, and where there is none there are none
pub number_next : (cs : List ℕ) (v : ℕ) (rest : List ℕ) → Some v ≡ (number_in cs).number → rest ≡ (number_in cs).rest → numbers_in cs ≡ v ∷ numbers_in rest
number_next cs v rest e f =
    MatchOption-at_some (numbers_in cs ≡ []) (λ v. numbers_in cs ≡ v ∷ numbers_in (number_in cs).rest) v (sym e) (told_by None cs)
    ∙ ap (λ (l : List ℕ). v ∷ numbers_in l) (sym f)

pub number_none : (cs : List ℕ) → None ≡ (number_in cs).number → numbers_in cs ≡ []
number_none cs e = MatchOption-at_none (numbers_in cs ≡ []) (λ v. numbers_in cs ≡ v ∷ numbers_in (number_in cs).rest) (sym e) (told_by None cs)
