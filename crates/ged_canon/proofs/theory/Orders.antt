-- Trees are in order exactly where their tags are.
use Rattle.ged_tree.specs.Trees.{Trees, none, tree}
use Rattle.ged_canon.specs.Normal.{InOrder}
use Rattle.ged_canon.specs.inner.Orders.{tags, TagsInOrder}

pub tags_of_order : (xs : Trees) → InOrder xs → TagsInOrder (tags xs)
tags_of_order none h = tt
tags_of_order (tree s below none) h = tt
tags_of_order (tree s below (tree t under next)) h = (h.0, tags_of_order (tree t under next) h.1)

pub order_of_tags : (xs : Trees) → TagsInOrder (tags xs) → InOrder xs
order_of_tags none h = tt
order_of_tags (tree s below none) h = tt
order_of_tags (tree s below (tree t under next)) h = (h.0, order_of_tags (tree t under next) h.1)
