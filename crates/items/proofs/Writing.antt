-- Laws of writing: lengths, and lists part by part.
use Prim.Native.Nat.{ℕ, ◌+◌}
use mathlib.Core.Path.{◌≡◌, refl}
use mathlib.Core.List.{List, [], ◌∷◌, ◌++◌, append_assoc}
use native.Mathlib.Omega.{arith}
use lib.ListN.{length}
use Rattle.items.specs.Items.{item, item_head, Span, span_item, span_list, name_item}

pub length_head : (kind size : ℕ) → length (item_head kind size) ≡ 6
unfolding item_head
length_head kind size = refl

pub length_item : (kind : ℕ) (body : List ℕ) → length (item kind body) ≡ 6 + length body
unfolding item
length_item kind body = omega arith

pub length_span : (s : Span) → length (span_item s) ≡ 14 + length s.wire
unfolding span_item item
length_span s = omega arith

pub length_name : (n : List ℕ) → length (name_item n) ≡ 6 + length n
unfolding name_item
length_name n = length_item 3 n

pub spans_none : span_list [] ≡ []
unfolding span_list
spans_none = refl

pub spans_more : (s : Span) (ss : List Span) → span_list (s ∷ ss) ≡ span_item s ++ span_list ss
unfolding span_list
spans_more s ss = refl

pub spans_append : (a b : List Span) → span_list (a ++ b) ≡ span_list a ++ span_list b
unfolding span_list
spans_append [] b = refl
spans_append (s ∷ a) b = rw (spans_append a b, append_assoc)
