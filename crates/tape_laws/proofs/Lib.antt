mod Spelled
mod Reading
mod Events
mod Courses
mod Recording
mod Cutting
mod Ends
