-- Words that stand one behind another.
use Rattle.std.proofs.Common.{◌≡◌, ℕ, ◌+◌, ◌<◌, List, [], ◌∷◌, ◌++◌, length, take, get_or, map, refl, sym, ap, ◌∙◌, append_assoc, append-nil}
use Rattle.std.specs.List.{join_with_byte}
use Rattle.std.proofs.lemmas.List.{take_more, map-append}
use Rattle.std.proofs.lemmas.Bool.Decides.{nat_tests}
use Rattle.std.specs.Prelude.{flat_map}
use Rattle.redir_wire.specs.Field.{Field}
use Rattle.packet_show.specs.Redir.{field_words, words_of, field_text}
use Rattle.packet_show.specs.Line.{SPACE, LF, decimal, line, spaced, spaced_words}

pub spaced_words-nil : spaced_words [] ≡ []
unfolding spaced_words
spaced_words-nil = refl

pub spaced_words-cons : (word : List ℕ) (words : List (List ℕ)) → spaced_words (word ∷ words) ≡ spaced word ++ spaced_words words
unfolding spaced_words
spaced_words-cons word words = refl

pub spaced_words-append : (front back : List (List ℕ)) → spaced_words (front ++ back) ≡ spaced_words front ++ spaced_words back
unfolding spaced_words
spaced_words-append [] back = refl
spaced_words-append (word ∷ words) back = ap (λ (rest : List ℕ). spaced word ++ rest) (spaced_words-append words back) ∙ sym (append_assoc (spaced word) (spaced_words words) (spaced_words back))

-- fields, each as its words
pub fields_spaced : (fs : List Field) → flat_map field_text fs ≡ spaced_words (words_of fs)
unfolding field_text
fields_spaced [] = sym spaced_words-nil
fields_spaced (f ∷ fs) = ap (λ (rest : List ℕ). spaced_words (field_words f) ++ rest) (fields_spaced fs) ∙ sym (spaced_words-append (field_words f) (words_of fs))

-- words that are known one by one
pub ruleset spacing = (append_assoc, append-nil, spaced_words-nil, spaced_words-cons, spaced_words-append, nat_tests)

pub one_word : (word : List ℕ) → spaced word ≡ spaced_words (word ∷ [])
one_word word = sym (spaced_words-cons word [] ∙ ap (λ (rest : List ℕ). spaced word ++ rest) spaced_words-nil ∙ append-nil (spaced word))

-- words behind those of a line that was begun
pub then_words : (old begun : List ℕ) (front back : List (List ℕ)) (mid new : List ℕ) → mid ≡ old ++ (begun ++ spaced_words front) → new ≡ mid ++ spaced_words back → new ≡ old ++ (begun ++ spaced_words (front ++ back))
then_words old begun front back mid new so_far push =
    push ∙ ap (λ (text : List ℕ). text ++ spaced_words back) so_far
    ∙ append_assoc old (begun ++ spaced_words front) (spaced_words back)
    ∙ ap (λ (text : List ℕ). old ++ text) (append_assoc begun (spaced_words front) (spaced_words back) ∙ ap (λ (text : List ℕ). begun ++ text) (sym (spaced_words-append front back)))

pub then_word : (old begun : List ℕ) (front : List (List ℕ)) (word mid new : List ℕ) → mid ≡ old ++ (begun ++ spaced_words front) → new ≡ mid ++ spaced word → new ≡ old ++ (begun ++ spaced_words (front ++ word ∷ []))
then_word old begun front word mid new so_far push = then_words old begun front (word ∷ []) mid new so_far (push ∙ ap (λ (text : List ℕ). mid ++ text) (one_word word))

-- one word more of a list of numbers, or of other items, in order
pub one_more : {X : Type 0} (text : X → List ℕ) (xs : List X) (i : ℕ) (d : X) (old mid new : List ℕ) → i < length xs → mid ≡ old ++ spaced_words (map text (take i xs)) → new ≡ mid ++ spaced (text (get_or xs i d)) → new ≡ old ++ spaced_words (map text (take (i + 1) xs))
one_more text xs i d old mid new lt so_far push =
    let e = take_more xs i d lt in
    let m = ap (map text) e ∙ map-append text (take i xs) (get_or xs i d ∷ []) in
    then_word old [] (map text (take i xs)) (text (get_or xs i d)) mid new so_far push ∙ ap (λ (words : List (List ℕ)). old ++ spaced_words words) (sym m)

joined : (word : List ℕ) (words : List (List ℕ)) → join_with_byte SPACE (word ∷ words) ≡ word ++ spaced_words words
unfolding spaced spaced_words
joined word [] = sym (append-nil word)
joined word (other ∷ words) = ap (λ (rest : List ℕ). word ++ (SPACE ∷ rest)) (joined other words)

-- a line is its place, the words with a space before each, and LF
pub line_spaced : (place : ℕ) (words : List (List ℕ)) → line place words ≡ (decimal place ++ spaced_words words) ++ LF ∷ []
line_spaced place words = ap (λ (text : List ℕ). text ++ LF ∷ []) (joined (decimal place) words)
