-- What the rows of a table say, each by value: those that `method` takes, and the dates. Document 01, "The sheet and the table"; document 02, requests
-- 1, 3 and 5. Storeys and directions count from 1, as in document 01, rows and columns from 0, as in `survey`. The struct of a row is filled here and
-- nowhere else.
use Rattle.std.specs.Prelude.{List, ℕ, ◌+◌}
use Rattle.calendar.specs.Days.{age_on}
use Rattle.survey.specs.Table.{cell, storeys, ends_row, parts_row, dates_row}
use Rattle.method.specs.declared.rows.House.{House}
use Rattle.method.specs.declared.rows.Storey.{Storey}
use Rattle.method.specs.declared.rows.HousePart.{HousePart}
use Rattle.method.specs.declared.rows.Wall.{Wall}
use Rattle.method.specs.declared.rows.Items.{Items}
use Rattle.diagnosis.specs.declared.accepted.Dates.{Dates}

-- The columns that two houses compared may differ in: of the house row,
abbrev pub weight_column : ℕ
weight_column = 2

abbrev pub zone_column : ℕ
zone_column = 3

abbrev pub ground_column : ℕ
ground_column = 4

-- of the parts row,
abbrev pub marked_column : ℕ
marked_column = 2

-- and of the dates row.
abbrev pub survey_day_column : ℕ
survey_day_column = 3

-- The house row.
abbrev pub weight : List ℕ → ℕ
weight table = cell table 0 weight_column

abbrev pub zone : List ℕ → ℕ
zone table = cell table 0 zone_column

abbrev pub ground_class : List ℕ → ℕ
ground_class table = cell table 0 ground_column

abbrev pub foundation : List ℕ → ℕ
foundation table = cell table 0 5

-- "Column 8 of the house row becomes snow" (document 02, request 1), which two houses compared have in common.
abbrev pub snow_column : ℕ
snow_column = 7

abbrev pub snow : List ℕ → ℕ
snow table = cell table 0 snow_column

abbrev pub house_of : List ℕ → House
house_of table = record {
  storeys = storeys table;
  weight = weight table;
  zone = zone table;
  ground_class = ground_class table;
  foundation = foundation table;
  snow = snow table;
}

-- A storey's row, which is the row of its number.
abbrev pub storey_of : List ℕ → ℕ → Storey
storey_of table storey = record {
  number = storey;
  area = cell table storey 2;
  side = cell table storey 3;
  floor = cell table storey 4;
  void = cell table storey 5;
}

-- What strength is required of: a whole storey, which is a part with all storeys of the house;
abbrev pub storey_part : House → Storey → HousePart
storey_part house storey = record { storey = storey.number; storeys = house.storeys; area = storey.area }

-- and the ends of a storey in a direction, a and b, by the row that has "areas of end quarters a and b" and then "storeys of the part at a, at
-- b".
abbrev pub end_a : ℕ
end_a = 0

abbrev pub end_b : ℕ
end_b = 1

abbrev pub end_part : List ℕ → ℕ → ℕ → ℕ → HousePart
end_part table storey direction end = record {
  storey = storey;
  storeys = cell table (ends_row table storey direction) (5 + end);
  area = cell table (ends_row table storey direction) (3 + end);
}

-- A wall, by its row among the walls of its storey, from 0: the direction and place where it stands, and the wall.
abbrev pub wall_direction : List ℕ → ℕ → ℕ
wall_direction walls row = cell walls row 2

abbrev pub wall_place : List ℕ → ℕ → ℕ
wall_place walls row = cell walls row 3

abbrev pub wall_of : List ℕ → ℕ → Wall
wall_of walls row = record { strength = cell walls row 4; length = cell walls row 5; joint = cell walls row 6; walltype = cell walls row 7 }

-- The parts row.
abbrev pub present : List ℕ → ℕ
present table = cell table (parts_row table) 1

abbrev pub marked : List ℕ → ℕ
marked table = cell table (parts_row table) marked_column

-- "Column 4 of the parts row becomes 1 for repaired, else 0" (document 02, request 5), which two houses compared have in common.
abbrev pub repaired_column : ℕ
repaired_column = 3

abbrev pub repaired : List ℕ → ℕ
repaired table = cell table (parts_row table) repaired_column

abbrev pub items_of : List ℕ → Items
items_of table = record { present = present table; marked = marked table }

-- The dates row: "8; start of work; completion; survey day; four 0s" (document 02, request 3), each a day of eight digits.
abbrev pub start_of_work : List ℕ → ℕ
start_of_work table = cell table (dates_row table) 1

abbrev pub completion : List ℕ → ℕ
completion table = cell table (dates_row table) 2

abbrev pub survey_day : List ℕ → ℕ
survey_day table = cell table (dates_row table) survey_day_column

abbrev pub dates_of : List ℕ → Dates
dates_of table = record { start = start_of_work table; completion = completion table; survey = survey_day table }

-- The house's age, 1 under ten years and 2 ten or more: its age on the survey day.
abbrev pub age : List ℕ → ℕ
age table = age_on (completion table) (survey_day table)
