-- What the parts of a drawing append to its text.
use Rattle.std.specs.Prelude.{◌≡◌, ◌++◌, ℕ, List, codes, IsTrue}
use Rattle.std.specs.List.{list_all}
use Rattle.show_pictures.specs.Markup.{AreAttributes, IsContent, is_measure_byte}

-- content
pub record AppendsContent (before after : List ℕ) : Type 0 where
  pub added : List ℕ
  pub is : after ≡ before ++ added
  pub content : IsContent added

-- numbers and letters of a path
pub record AppendsMeasures (before after : List ℕ) : Type 0 where
  pub added : List ℕ
  pub is : after ≡ before ++ added
  pub measures : IsTrue (list_all is_measure_byte added)

-- the end of a path's numbers and letters, its other attributes, and its end
pub record EndsPath (before after : List ℕ) : Type 0 where
  pub attributes : List ℕ
  pub is : after ≡ before ++ (codes "\"" ++ (attributes ++ codes "/>\n"))
  pub are_attributes : AreAttributes attributes

-- attributes, the end of their element's start, and the end of a line
pub record BeginsContent (before after : List ℕ) : Type 0 where
  pub attributes : List ℕ
  pub is : after ≡ before ++ (attributes ++ codes ">\n")
  pub are_attributes : AreAttributes attributes

-- the text is attributes, once a space comes before it
abbrev pub IsStyle : List ℕ → Type 0
IsStyle style = AreAttributes (codes " " ++ style)

-- the text is what the SVG element has between its first word and its end
pub record IsWithin (text : List ℕ) : Type 0 where
  pub attributes : List ℕ
  pub content : List ℕ
  pub are_attributes : AreAttributes attributes
  pub is_content : IsContent content
  pub is : text ≡ attributes ++ (codes ">" ++ content)
