-- Laws, each file after those that it rests on. The layers above go by these: Reading, NamedBelts, NamedPlaces, WordsParts, WordsPlaces, WordsTabled and
-- LineNumbers, about plans; RecordWriting, about records; LineFirst, about lists of refusal lines; Lists, ListCounts, ListRising and WordsLists, about
-- any lists. The others are behind them; the claims are proved in Claims. docs/NAMING.md says what the names begin with.
pub mod Lists
pub mod Iterators
pub mod ListCounts
pub mod ListRising
pub mod RecordWriting
pub mod ChainLinks
pub mod LineForms
pub mod LineLiterals
pub mod ChainMarks
pub mod LinePassed
pub mod ChainReached
pub mod ChainLaws
pub mod NamedBelts
pub mod NamedPlaces
pub mod LineFirst
pub mod LineAccepted
pub mod LineLimits
pub mod LineNumbers
pub mod Claims
pub mod Reading
pub mod WordsParts
pub mod WordsLists
pub mod WordsRows
pub mod WordsNamed
pub mod WordsFilled
pub mod WordsPlaces
pub mod WordsTabled
